-- What streets stand for after each command.
use Rattle.std.proofs.Common.{◌≡◌, ℕ, suc, ◌+◌, ◌<◌, Bool, false, List, [], ◌∷◌, ◌++◌, length, set, get_or, refl, sym, ◌∙◌, ap, subst, true≢false, arith, Option, Some, None, Result, Ok, Err, OnOk, OnErr, is_err, nat_lt, if◌then◌else◌}
use Rattle.std.specs.Option.{option_map_or}
use Rattle.std.proofs.lemmas.Bool.{lt-leb}
use Rattle.std.proofs.lemmas.List.{length-set}
use Rattle.street_base.specs.declared.net.NetSpec.{NetSpec}
use Rattle.street_base.specs.declared.reply.End.{End}
use Rattle.street_base.specs.declared.reply.End.TheVariants.{Taken}
use Rattle.street_base.specs.declared.names.Place.{Place}
use Rattle.street_base.specs.Prelude.{is_place, link_at, node_of, places, SignalPlan, Traffic, Detector, lane_at, each_lane, in_lane, one_if, IsWhole, IsSoundTraffic, with_marks, with_closure, signalled, taken_out, metered, most_detectors, last_clock, released, departed, changed, driven, step, with_arrivals, noted, entered, entry_of, plan_links, with_waiting}
use Rattle.street_base.proofs.EnterLemmas.{entered-sound}
use Rattle.street_base.proofs.CommandLemmas.{closure-sound, taken_out-sound}
use Rattle.street_base.proofs.StepLemmas.{step-sound}
use Rattle.street_base.proofs.PlaceLemmas.{places-listed}
use Rattle.street_base.proofs.ReleaseCountLemmas.{in_lanes-places}
use Rattle.street_base.proofs.FormLemmas.{shape-of}
use Rattle.street_lanes.specs.Prelude.{IsLane}
use Rattle.street_tile.specs.Prelude.{TileView, AreTiles, AllStand, TileStandsFor, Each, at_place, without, planned, MetersStand, AllMetersStand, detectors_on, Steps, TilesView, TilesStandFor, TilesGo, TilesKeep, HaveStepped, NobodyArrived, SameButArrived, all_arrived}
use Rattle.street_tile.proofs.Ones.{sum-one}
use Rattle.street_tile.proofs.Stepped.{stepped-kept}
use Rattle.street_engine.specs.declared.sites.DetectorSite.{DetectorSite}
use Rattle.street_engine.specs.Prelude.{AreDetectorSites, StreetsView, IsTrafficOf, IsKept, HasStepped, StreetsStandFor, StreetsGo, streets_of, AreComing}
use Rattle.street_engine.proofs.AreSites.{sites-map, sites-more}
use Rattle.street_engine.proofs.StepArrivals.{arrivals-coming, arrivals-end}

-- ---- ends alone

ends-stand : (x : TilesView) (m : Traffic) (es : List (Option End)) → TilesStandFor x m → TilesStandFor x (record m { ends = es })
ends-stand x m es s = record {
  lanes = record {
    on = record { network = s.lanes.on.network; formed = record { lanes = s.lanes.on.formed.lanes; cells = s.lanes.on.formed.cells; turns = s.lanes.on.formed.turns } };
    each = λ k d l. let t = s.lanes.each k d l in record { clock = t.clock; lanes = t.lanes; none_loose = t.none_loose; signals = t.signals };
  };
  meters = s.meters;
}

-- ---- what a call does

-- to what it is seen as
pub goes-with : {x y v : StreetsView} (f : Traffic → Traffic) → x ≡ v → ((m : Traffic) → IsTrafficOf x m → IsTrafficOf y (f m)) → StreetsGo f v y
unfolding StreetsStandFor
goes-with {x} {y} {v} f is each = λ m stands. each m (subst (λ (u : StreetsView). StreetsStandFor u m) (sym is) stands)

-- what it stands for, as it is seen
pub traffic-of : {x v : StreetsView} {m : Traffic} → x ≡ v → StreetsStandFor v m → IsTrafficOf x m
unfolding StreetsStandFor
traffic-of {x} {v} {m} is stands = subst (λ (u : StreetsView). IsTrafficOf u m) (sym is) stands

-- what the step was that it has made, as it is seen
pub stepped-of : {x v : StreetsView} {m : Traffic} → x ≡ v → HasStepped v m → IsTrafficOf x (step m) × HaveStepped x.tiles m
stepped-of {x} {v} {m} is s = (traffic-of is s.stands, subst (λ (u : StreetsView). HaveStepped u.tiles m) (sym is) s.tiles)

-- what it stands for is what it is seen to stand for
pub stands-seen : {x v : StreetsView} {m : Traffic} → x ≡ v → IsTrafficOf x m → StreetsStandFor v m
unfolding StreetsStandFor
stands-seen {x} {v} {m} is t = subst (λ (u : StreetsView). IsTrafficOf u m) is t

-- the network stays, and with it where detectors are
same-sites : {net after : NetSpec} {sites later : List DetectorSite} → after ≡ net → later ≡ sites → (ds : List Detector) → AreDetectorSites net sites ds → AreDetectorSites after later ds
same-sites {net} {after} {sites} {later} same is ds are = subst (λ (n : NetSpec). AreDetectorSites n later ds) (sym same) (subst (λ (ss : List DetectorSite). AreDetectorSites net ss ds) (sym is) are)

same-signals : {net after : NetSpec} → after ≡ net → (k : ℕ) → k ≡ length net.nodes → k ≡ length after.nodes
same-signals same k is = is ∙ ap (λ (n : NetSpec). length n.nodes) (sym same)

-- the number that is given next is on no lane
nowhere-next : (m : Traffic) → IsSoundTraffic m → (p : Place) → p.lane < (link_at m.network p.link).lanes → in_lane (length m.ends) (lane_at m p) ≡ 0
nowhere-next m sound p within =
    let number = length m.ends in
    let whole = sound.whole number in
    let not_given : one_if (nat_lt number (length m.ends)) ≡ 0 = ap one_if (lt-leb (suc number) (length m.ends) (omega arith)) in
    let all = in_lanes-places m (shape-of m sound.formed) number in
    let one = sum-one (λ q. in_lane number (lane_at m q)) (places m.network) p (places-listed m.network p within) in
    omega arith

-- with the next vehicle as it may be written
abbrev waits_at : Traffic → ℕ → ℕ → ℕ → List ℕ → Place → Traffic
waits_at m depart size number plan p = record m {
  lanes = each_lane (λ q lane. if is_place q p then with_waiting (record { vehicle = record { number = number; size = size; speed = 0; plan = plan; position = 0 }; depart = depart }) lane else lane) m.lanes;
  ends = m.ends ++ None ∷ [];
}

module _ {sites : List DetectorSite} {clock : ℕ} {x y : TilesView} {ends : List (Option End)} where
  -- the tiles were changed: there is still traffic for which all stands
  pub kept-goes : {P : Traffic → Type 0} {f : Traffic → Traffic} {later : List DetectorSite} {after : List (Option End)} (g : Traffic → Traffic) → IsKept (streets_of x sites clock ends) → TilesGo P f x y
      → ((m : Traffic) → IsTrafficOf (streets_of x sites clock ends) m → IsTrafficOf (streets_of y later clock after) (g m)) → IsKept (streets_of y later clock after)
  kept-goes g kept does stands = record { nobody = does.nobody kept.nobody; in_time = kept.in_time; some = (g kept.some.0, stands kept.some.0 kept.some.1) }

  -- ---- nothing is done

  pub keeps-stands : {later : List DetectorSite} {after : List (Option End)} → later ≡ sites → after ≡ ends → TilesKeep x y
      → (m : Traffic) → IsTrafficOf (streets_of x sites clock ends) m → IsTrafficOf (streets_of y later clock after) m
  keeps-stands sites_are ends_are keeps m t = record {
    clock = t.clock;
    ends = ends_are ∙ t.ends;
    tiles = keeps.goes m tt t.tiles;
    sound = t.sound;
    signals = same-signals keeps.network (length m.signals) t.signals;
    sites = same-sites keeps.network sites_are m.detectors t.sites;
  }

  pub kept-still : {later : List DetectorSite} {after : List (Option End)} → later ≡ sites → after ≡ ends → IsKept (streets_of x sites clock ends) → TilesKeep x y → IsKept (streets_of y later clock after)
  kept-still sites_are ends_are kept keeps = kept-goes (λ m. m) kept keeps (keeps-stands sites_are ends_are keeps)

  pub goes-still : {later : List DetectorSite} {after : List (Option End)} {v : StreetsView} → later ≡ sites → after ≡ ends → streets_of x sites clock ends ≡ v → TilesKeep x y → StreetsGo (λ m. m) v (streets_of y later clock after)
  goes-still sites_are ends_are is keeps = goes-with (λ m. m) is (keeps-stands sites_are ends_are keeps)

  -- ---- a vehicle is admitted

  -- with what the code has in hand
  pub admitted-stands : {v : StreetsView} {after : List (Option End)} → streets_of x sites clock ends ≡ v → after ≡ ends ++ None ∷ [] → (number first lane depart size : ℕ) (plan kept ids : List ℕ)
      → TilesGo (λ m. in_lane number (lane_at m (record { link = first; lane = lane })) ≡ 0) (at_place (record { link = first; lane = lane }) (with_waiting (record { vehicle = record { number = number; size = size; speed = 0; plan = kept; position = 0 }; depart = depart }))) x y
      → number ≡ length ends → kept ≡ plan → plan ≡ plan_links v.tiles.network ids → first ≡ get_or plan 0 0 → lane < (link_at v.tiles.network (get_or plan 0 0)).lanes
      → (m : Traffic) → IsTrafficOf (streets_of x sites clock ends) m → IsTrafficOf (streets_of y sites clock after) (entered m ids lane depart size)
  unfolding entered at_place
  admitted-stands {v} seen pushed number first lane depart size plan kept ids does is_number is_plan is_links is_first within m t =
      let p : Place = record { link = first; lane = lane } in
      let network : v.tiles.network ≡ m.network = ap (λ (u : StreetsView). u.tiles.network) (sym seen) ∙ sym t.tiles.lanes.on.network in
      let links : plan ≡ plan_links m.network ids = is_links ∙ ap (λ (n : NetSpec). plan_links n ids) network in
      let entry : p ≡ entry_of m.network ids lane = ap (λ (l : ℕ). record { link = l; lane = lane }) (is_first ∙ ap (λ (l : List ℕ). get_or l 0 0) links) in
      let inside : lane < (link_at m.network first).lanes = subst (λ (n : NetSpec). lane < (link_at n first).lanes) network (subst (λ (l : ℕ). lane < (link_at v.tiles.network l).lanes) (sym is_first) within) in
      let next : number ≡ length m.ends = is_number ∙ ap length t.ends in
      let none : in_lane number (lane_at m p) ≡ 0 = subst (λ (n : ℕ). in_lane n (lane_at m p) ≡ 0) (sym next) (nowhere-next m t.sound p inside) in
      let stood : TilesStandFor y (waits_at m depart size number kept p) = ends-stand y (at_place p (with_waiting (record { vehicle = record { number = number; size = size; speed = 0; plan = kept; position = 0 }; depart = depart })) m) (m.ends ++ None ∷ []) (does.goes m none t.tiles) in
      let named : TilesStandFor y (waits_at m depart size (length m.ends) kept p) = subst (λ (n : ℕ). TilesStandFor y (waits_at m depart size n kept p)) next stood in
      let planned : TilesStandFor y (waits_at m depart size (length m.ends) (plan_links m.network ids) p) = subst (λ (l : List ℕ). TilesStandFor y (waits_at m depart size (length m.ends) l p)) (is_plan ∙ links) named in
      record {
        clock = t.clock;
        ends = pushed ∙ ap (λ (es : List (Option End)). es ++ None ∷ []) t.ends;
        tiles = subst (λ (q : Place). TilesStandFor y (waits_at m depart size (length m.ends) (plan_links m.network ids) q)) entry planned;
        sound = entered-sound m ids lane depart size (subst (λ (q : Place). q.lane < (link_at m.network q.link).lanes) entry inside) t.sound;
        signals = same-signals does.network (length m.signals) t.signals;
        sites = same-sites does.network refl m.detectors t.sites;
      }

  -- ---- a signal plan is set

  pub planned-stands : (node : ℕ) (plan : SignalPlan) → TilesGo (λ m. node < length m.signals) (planned node plan) x y → node < length x.network.nodes
      → (m : Traffic) → IsTrafficOf (streets_of x sites clock ends) m → IsTrafficOf (streets_of y sites clock ends) (planned node plan m)
  unfolding planned
  planned-stands node plan does within m t = record {
    clock = t.clock;
    ends = t.ends;
    tiles = does.goes m (let e = t.signals in omega arith) t.tiles;
    sound = record { formed = record { lanes = t.sound.formed.lanes; cells = t.sound.formed.cells; turns = t.sound.formed.turns }; whole = t.sound.whole; disjoint = t.sound.disjoint };
    signals = length-set m.signals node (Some plan) ∙ same-signals does.network (length m.signals) t.signals;
    sites = same-sites does.network refl m.detectors t.sites;
  }

  -- ---- cells are closed or opened

  pub closure-stands : (closed : Bool) (p : Place) (first last : ℕ) → TilesGo (λ m. Unit {0}) (at_place p (with_marks closed first last)) x y
      → (m : Traffic) → IsTrafficOf (streets_of x sites clock ends) m → IsTrafficOf (streets_of y sites clock ends) (with_closure closed p first last m)
  unfolding with_closure at_place
  closure-stands closed p first last does m t = record {
    clock = t.clock;
    ends = t.ends;
    tiles = does.goes m tt t.tiles;
    sound = closure-sound closed p first last m t.sound;
    signals = same-signals does.network (length m.signals) t.signals;
    sites = same-sites does.network refl m.detectors t.sites;
  }

  -- ---- a vehicle is taken out

  pub taken-stands : {v : StreetsView} {after : List (Option End)} → streets_of x sites clock ends ≡ v → (number : ℕ) → after ≡ set ends number (Some (Taken clock)) → TilesGo IsWhole (without number) x y → number < length v.ends
      → (m : Traffic) → IsTrafficOf (streets_of x sites clock ends) m → IsTrafficOf (streets_of y sites clock after) (taken_out m number)
  unfolding taken_out without
  taken-stands {v} seen number noted does given m t =
      let inside : number < length ends = subst (λ (u : StreetsView). number < length u.ends) (sym seen) given in
      record {
        clock = t.clock;
        ends = noted ∙ ap (λ (es : List (Option End)). set es number (Some (Taken clock))) t.ends ∙ ap (λ (at : ℕ). set m.ends number (Some (Taken at))) t.clock;
        tiles = ends-stand y (without number m) (set m.ends number (Some (Taken m.clock))) (does.goes m t.sound.whole t.tiles);
        sound = taken_out-sound m number (let e = ap length t.ends in omega arith) t.sound;
        signals = same-signals does.network (length m.signals) t.signals;
        sites = same-sites does.network refl m.detectors t.sites;
      }

  -- ---- a detector is placed

  pub metered-stands : {v : StreetsView} {later : List DetectorSite} → streets_of x sites clock ends ≡ v → (s : DetectorSite) (cell period : ℕ) → later ≡ sites ++ s ∷ [] → TilesGo (λ m. Unit {0}) (λ m. metered m s.at cell period) x y
      → IsLane v.tiles.network s.at → length v.sites < most_detectors → ((m : Traffic) → TilesStandFor x m → s.number ≡ length (detectors_on s.at m.detectors))
      → (m : Traffic) → IsTrafficOf (streets_of x sites clock ends) m → IsTrafficOf (streets_of y later clock ends) (metered m s.at cell period)
  unfolding metered
  metered-stands {v} {later} seen s cell period pushed does lane room number m t =
      let even = t.sites.even in
      let here : IsLane x.network s.at = subst (λ (u : StreetsView). IsLane u.tiles.network s.at) (sym seen) lane in
      let few : length sites < most_detectors = subst (λ (u : StreetsView). length u.sites < most_detectors) (sym seen) room in
      let more = sites-more x.network sites m.detectors s _ t.sites (omega arith) here refl (number m t.tiles) in
      record {
        clock = t.clock;
        ends = t.ends;
        tiles = does.goes m tt t.tiles;
        sound = record { formed = record { lanes = t.sound.formed.lanes; cells = t.sound.formed.cells; turns = t.sound.formed.turns }; whole = t.sound.whole; disjoint = t.sound.disjoint };
        signals = same-signals does.network (length m.signals) t.signals;
        sites = subst (λ (n : NetSpec). AreDetectorSites n later (metered m s.at cell period).detectors) (sym does.network) (subst (λ (ss : List DetectorSite). AreDetectorSites x.network ss (metered m s.at cell period).detectors) (sym pushed) more);
      }

-- the plan of the node with an identifier
pub signalled-planned : (m : Traffic) (node id : ℕ) (plan : SignalPlan) → node_of m.network id ≡ Some node → signalled m id plan ≡ planned node plan m
unfolding signalled planned
signalled-planned m node id plan is = ap (λ (o : Option ℕ). record m { signals = option_map_or (λ at. set m.signals at (Some plan)) o m.signals }) is

-- ---- a step

step-clock : (m : Traffic) → (step m).clock ≡ m.clock + 1
unfolding step
step-clock m = refl

step-signals : (m : Traffic) → (step m).signals ≡ m.signals
unfolding step departed released driven changed
step-signals m = refl

-- a detector that notes a step stays where it is
step-sites : (net : NetSpec) (sites : List DetectorSite) (m : Traffic) → AreDetectorSites net sites m.detectors → AreDetectorSites net sites (step m).detectors
unfolding step departed released driven changed
step-sites net sites m are = sites-map (noted (changed m) (departed (released (driven (changed m))))) (λ d. refl) net sites m.detectors are

-- those who arrived were taken note of
noted-stand : (net : NetSpec) (xs ys : List TileView) (m : Traffic) → length ys ≡ length xs → Each (λ x y. y ≡ record x { arrived = [] }) xs ys → AllStand net xs m → AllStand net ys m
noted-stand net xs ys m long each s = record {
  on = s.on;
  each = λ k d l.
      let within : k < length xs = omega arith in
      let t = s.each k d within in
      subst (λ (p : TileView). TileStandsFor p m) (sym (each k d within)) (record { clock = t.clock; lanes = t.lanes; none_loose = t.none_loose; signals = t.signals });
}

noted-meters : (xs ys : List TileView) (m : Traffic) → length ys ≡ length xs → Each (λ x y. y ≡ record x { arrived = [] }) xs ys → AllMetersStand xs m → AllMetersStand ys m
noted-meters xs ys m long each kept k d l =
    let within : k < length xs = omega arith in
    subst (λ (p : TileView). MetersStand p m) (sym (each k d within)) (kept k d within)

-- who takes all numbers changes nothing else
but-arrived : (x y : TileView) → y ≡ record x { arrived = [] } → SameButArrived x y
but-arrived x y is = is ∙ ap (λ (ns : List ℕ). record x { arrived = ns }) (sym (ap (λ (t : TileView). t.arrived) is))

pub noted-nobody : (y z : TilesView) → length z.tiles ≡ length y.tiles → Each (λ x y. y ≡ record x { arrived = [] }) y.tiles z.tiles → NobodyArrived z
noted-nobody y z long each k d l = ap (λ (t : TileView). t.arrived) (each k d (omega arith))

-- memory for a step was taken, and the tiles stand for what they stood for
module _ {sites : List DetectorSite} {clock : ℕ} {s x : TilesView} {ends : List (Option End)} (kept : IsKept (streets_of s sites clock ends)) (taken : TilesKeep s x) where
  pub prepared : IsKept (streets_of x sites clock ends)
  prepared = kept-still refl refl kept taken

  pub may-step : {v : StreetsView} → streets_of s sites clock ends ≡ v → v.clock < last_clock → (m : Traffic) × TilesStandFor x m × (m.clock < last_clock)
  may-step seen early =
      let before : clock < last_clock = subst (λ (v : StreetsView). v.clock < last_clock) (sym seen) early in
      let same = prepared.some.1.clock in
      (prepared.some.0, prepared.some.1.tiles, omega arith)

  -- the tiles of one network make a step
  module _ {y : TilesView} (tiles : AreTiles x.network x.tiles) (same : y.network ≡ x.network) (long : length y.tiles ≡ length x.tiles) (went : Steps x.network x.tiles y.tiles) where
    -- each of those who arrived was on the way
    pub step-coming : AreComing (all_arrived y.tiles) ends
    step-coming =
        let m = prepared.some.0 in
        let t = prepared.some.1 in
        subst (AreComing (all_arrived y.tiles)) (sym t.ends) (arrivals-coming x.network x.tiles y.tiles tiles long m t.tiles.lanes.on.network t.sound (went.arrived m t.tiles.lanes))

    -- those who arrived are taken note of
    module _ {z : TilesView} {after : List (Option End)} (still : z.network ≡ y.network) (longer : length z.tiles ≡ length y.tiles) (noted : Each (λ x y. y ≡ record x { arrived = [] }) y.tiles z.tiles) (is : after ≡ with_arrivals clock (all_arrived y.tiles) ends) where
      pub step-stands : (m : Traffic) → IsTrafficOf (streets_of s sites clock ends) m → IsTrafficOf (streets_of z sites (clock + 1) after) (step m)
      step-stands m before =
          let t : IsTrafficOf (streets_of x sites clock ends) m = keeps-stands refl refl taken m before in
          let network : z.network ≡ x.network = still ∙ same in
          record {
            clock = ap (λ (n : ℕ). n + 1) t.clock ∙ sym (step-clock m);
            ends = is ∙ ap (λ (n : ℕ). with_arrivals n (all_arrived y.tiles) ends) t.clock ∙ ap (with_arrivals m.clock (all_arrived y.tiles)) t.ends ∙ arrivals-end x.network x.tiles y.tiles tiles long m t.tiles.lanes.on.network t.sound (went.arrived m t.tiles.lanes);
            tiles = record {
              lanes = subst (λ (n : NetSpec). AllStand n z.tiles (step m)) (sym network) (noted-stand x.network y.tiles z.tiles (step m) longer noted (went.machine m t.tiles.lanes));
              meters = noted-meters y.tiles z.tiles (step m) longer noted (went.meters m t.tiles.lanes t.tiles.meters);
            };
            sound = step-sound m t.sound;
            signals = ap length (step-signals m) ∙ t.signals ∙ ap (λ (n : NetSpec). length n.nodes) (sym network);
            sites = subst (λ (n : NetSpec). AreDetectorSites n sites (step m).detectors) (sym network) (step-sites x.network sites m t.sites);
          }

      -- they hold the rows of those who arrived
      pub step-rows : ((m : Traffic) → TilesStandFor x m → HaveStepped y m) → (m : Traffic) → IsTrafficOf (streets_of s sites clock ends) m → HaveStepped z m
      step-rows stepped m before =
          stepped-kept y z m (stepped m (keeps-stands refl refl taken m before).tiles) still longer
          (λ k d l. but-arrived (get_or y.tiles k d) (get_or z.tiles k d) (noted k d l))

      pub step-kept : {v : StreetsView} → streets_of s sites clock ends ≡ v → v.clock < last_clock → IsKept (streets_of z sites (clock + 1) after)
      step-kept seen early =
          let before : clock < last_clock = subst (λ (v : StreetsView). v.clock < last_clock) (sym seen) early in
          record { nobody = noted-nobody y z longer noted; in_time = omega (arith, before); some = (step kept.some.0, step-stands kept.some.0 kept.some.1) }

-- ---- what is said of a call that may answer an error

pub kept-either : {T E : Type 0} (r : Result T E) (x : StreetsView) → OnOk r (IsKept x) → OnErr r (IsKept x) → IsKept x
kept-either (Ok t) x ok err = ok
kept-either (Err e) x ok err = err

pub unless-err : {T E : Type 0} (P : Type 0) (r : Result T E) → is_err r ≡ false → OnOk r P → P
unless-err P (Ok t) none p = p
unless-err P (Err e) none p = absurd (true≢false none)
