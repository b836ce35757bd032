-- Cells of a lane closed and opened again, and a lane shown.
use Rattle.std.proofs.Common.{◌≡◌, ℕ, Bool, true, false, List, [], ◌++◌, refl, sym, ◌∙◌, ap, subst, Some, None}
use Rattle.street_base.specs.declared.net.NetSpec.{NetSpec}
use Rattle.street_base.specs.declared.command.Command.TheVariants.{CloseLane, ReopenLane, Lane as AskLane}
use Rattle.street_base.specs.declared.refusal.Refusal.{Refusal}
use Rattle.street_base.specs.declared.reply.Reply.{Reply}
use Rattle.street_base.specs.declared.reply.Reply.TheVariants.{Closed, Refused, Starved as StarvedReply}
use Rattle.street_base.specs.declared.reply.Outcome.TheVariants.{Whole, Starved}
use Rattle.street_base.specs.declared.names.Place.{Place}
use Rattle.street_base.specs.Prelude.{Traffic, lane_at, with_closure, named_lane, shown_lane, refusal, first_of, lane_tests, lane_refusal, closure_refusal, closed_after, MayStarveUnder}
use Rattle.street_engine.specs.Prelude.{StreetsView, StreetsStandFor, StreetsGo, closing, Serves}
use Rattle.street_engine.proofs.Serves.{same-network, streets-refused, streets-starved, streets-starving, streets-done, streets-told}

module _ (s : StreetsView) (link lane : ℕ) where
  -- the lane that the machine names
  named-as : (at : Place) → at ≡ named_lane s.tiles.network link lane → (m : Traffic) → StreetsStandFor s m → at ≡ named_lane m.network link lane
  named-as at place m stands = place ∙ ap (λ (net : NetSpec). named_lane net link lane) (sym (same-network s m stands))

  -- ---- cells

  module _ (first last : ℕ) (closed : Bool) where
    pub closing-refused : (q : Refusal) → ((m : Traffic) → m.network ≡ s.tiles.network → closure_refusal link lane first last m ≡ Some q) → Serves (Some s) (closing closed link lane first last) (Refused q) Whole (Some s)
    closing-refused q refused = streets-refused s (closing closed link lane first last) q (λ m stands. refusal-of closed m ∙ refused m (same-network s m stands))
      where
        refusal-of : (b : Bool) (m : Traffic) → refusal (Some m) (closing b link lane first last) ≡ closure_refusal link lane first last m
        refusal-of true m = refl
        refusal-of false m = refl

    module _ (passed : (m : Traffic) → m.network ≡ s.tiles.network → closure_refusal link lane first last m ≡ None) (t : StreetsView) where
      accepted : (m : Traffic) → StreetsStandFor s m → closure_refusal link lane first last m ≡ None
      accepted m stands = passed m (same-network s m stands)

      pub closing-starved : StreetsGo (λ m. m) s t → Serves (Some s) (closing closed link lane first last) StarvedReply Starved (Some t)
      closing-starved keeps = by_closed closed
        where
          by_closed : (b : Bool) → Serves (Some s) (closing b link lane first last) StarvedReply Starved (Some t)
          by_closed true = streets-starved s (CloseLane link lane first last) t (λ m stands. subst MayStarveUnder (sym (accepted m stands)) tt) keeps
          by_closed false = streets-starved s (ReopenLane link lane first last) t (λ m stands. subst MayStarveUnder (sym (accepted m stands)) tt) keeps

      module _ (at : Place) (low high count : ℕ) (place : at ≡ named_lane s.tiles.network link lane) (low_is : low ≡ first) (high_is : high ≡ last) where
        goes-as : StreetsGo (with_closure closed at low high) s t → StreetsGo (λ m. with_closure closed (named_lane m.network link lane) first last m) s t
        goes-as goes = λ m stands.
            subst (λ (p : Place). StreetsStandFor t (with_closure closed p first last m)) (named-as at place m stands)
            (subst (λ n. StreetsStandFor t (with_closure closed at first n m)) high_is
            (subst (λ n. StreetsStandFor t (with_closure closed at n high m)) low_is (goes m stands)))

        counts-as : ((m : Traffic) → StreetsStandFor s m → count ≡ closed_after closed low high (lane_at m at)) → (m : Traffic) → StreetsStandFor s m → count ≡ closed_after closed first last (lane_at m (named_lane m.network link lane))
        counts-as counts m stands =
            counts m stands
            ∙ ap (λ n. closed_after closed n high (lane_at m at)) low_is
            ∙ ap (λ n. closed_after closed first n (lane_at m at)) high_is
            ∙ ap (λ (p : Place). closed_after closed first last (lane_at m p)) (named-as at place m stands)

        pub closing-done : StreetsGo (with_closure closed at low high) s t → ((m : Traffic) → StreetsStandFor s m → count ≡ closed_after closed low high (lane_at m at)) → Serves (Some s) (closing closed link lane first last) (Closed count) Whole (Some t)
        closing-done goes counts = by_closed closed (goes-as goes) (counts-as counts)
          where
            by_closed : (b : Bool) → StreetsGo (λ m. with_closure b (named_lane m.network link lane) first last m) s t → ((m : Traffic) → StreetsStandFor s m → count ≡ closed_after b first last (lane_at m (named_lane m.network link lane)))
                → Serves (Some s) (closing b link lane first last) (Closed count) Whole (Some t)
            by_closed true g n = streets-done s (CloseLane link lane first last) t (Closed count) (λ m. with_closure true (named_lane m.network link lane) first last m) (λ m. refl) g (λ m stands. (accepted m stands, ap (λ n. Closed n) (n m stands)))
            by_closed false g n = streets-done s (ReopenLane link lane first last) t (Closed count) (λ m. with_closure false (named_lane m.network link lane) first last m) (λ m. refl) g (λ m stands. (accepted m stands, ap (λ n. Closed n) (n m stands)))

  -- ---- a lane

  pub lane-refused : (q : Refusal) → ((m : Traffic) (rest : List (Bool × Refusal)) → m.network ≡ s.tiles.network → first_of (lane_tests link lane m ++ rest) ≡ Some q) → Serves (Some s) (AskLane link lane) (Refused q) Whole (Some s)
  lane-refused q refused = streets-refused s (AskLane link lane) q (λ m stands. refused m [] (same-network s m stands))

  module _ (passed : (m : Traffic) (rest : List (Bool × Refusal)) → m.network ≡ s.tiles.network → first_of (lane_tests link lane m ++ rest) ≡ first_of rest) where
    there : (m : Traffic) → StreetsStandFor s m → lane_refusal link lane m ≡ None
    there m stands = passed m [] (same-network s m stands)

    pub lane-starved : Serves (Some s) (AskLane link lane) StarvedReply Starved (Some s)
    lane-starved = streets-starving s (AskLane link lane) (λ m stands. subst MayStarveUnder (sym (there m stands)) tt)

    pub lane-shown : (at : Place) (reply : Reply) → at ≡ named_lane s.tiles.network link lane → ((m : Traffic) → StreetsStandFor s m → reply ≡ shown_lane (lane_at m at)) → Serves (Some s) (AskLane link lane) reply Whole (Some s)
    lane-shown at reply place shown = streets-told s (AskLane link lane) reply (λ m. refl) (λ m stands. (there m stands, shown m stands ∙ ap (λ (p : Place). shown_lane (lane_at m p)) (named-as at place m stands)))
