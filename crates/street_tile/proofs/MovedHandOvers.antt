-- Hand-overs moved to the tiles that own their lanes.
use Rattle.std.proofs.Common.{◌≡◌, ℕ, zero, suc, ◌+◌, ◌<◌, ◌≤◌, Bool, true, false, List, [], ◌∷◌, ◌++◌, length, map, set, take, drop, get_or, refl, sym, ◌∙◌, ap, subst, arith, inl, inr, Option, Some, None, All, slice_get, ◌&&◌, ◌==◌, nat_le, nat_lt, if◌then◌else◌}
use Rattle.std.specs.Option.{option_map_or}
use Rattle.std.specs.List.{list_any}
use Rattle.std.proofs.lemmas.Bool.{cases_Bool, cases_eq, cases_lt, both_ways, cond-true, cond-false, and_parts, lt-leb, lt-ltb, le-ltb, ltb-true, eq-eqb, ne_eqb, false_from_ne_true, true_from_ne_false}
use Rattle.std.proofs.lemmas.List.{get_or-set_same, get_or-set_other, get_or_default, length_push, get_or_push, take_more, take_all, drop_more}
use Rattle.street_base.specs.declared.net.NetSpec.{NetSpec}
use Rattle.street_base.specs.declared.names.Place.{Place}
use Rattle.street_base.specs.Prelude.{is_place, link_at, node_of, places, Vehicle, one_if}
use Rattle.street_base.proofs.ReleaseLemmas.{is_place-refl, is_place-swap}
use Rattle.street_lanes.specs.Prelude.{IsLane}
use Rattle.street_tile.specs.Prelude.{Transfer, entry_in, TileView, SameTile, Each, is_own, own_places, nobody, all_handed, received, Awaits, moved_at, IsMoved}
use Rattle.street_node.specs.Prelude.{times, AtMostOnce}
use Rattle.street_tile.proofs.Rows.{InRow, AreInRow}
use Rattle.street_node.proofs.BufferWalk.{times-cons, once-rest, none-times, at-any}
use Rattle.street_node.proofs.LaneWalk.{times-filter}
use Rattle.street_tile.proofs.PublishedView.{all_handed-push}
use Rattle.std.proofs.lemmas.List.Elements.{All-take}
use Rattle.street_tile.proofs.PhasesOfAll.{tiles-of}
use Rattle.street_tile.proofs.SameTile.{same-moved}

-- ---- one more entry

pub entry-cons : (e : Transfer) (es : List Transfer) (p : Place) → entry_in (e ∷ es) p ≡ (if is_place p e.to then Some e.vehicle else entry_in es p)
entry-cons e es p = elim (cases_Bool (is_place p e.to)) as (λ _. entry_in (e ∷ es) p ≡ (if is_place p e.to then Some e.vehicle else entry_in es p)) [
  | inl here ↦ rw here refl
  | inr other ↦ rw other refl
]

-- of lanes that are not the entry's
pub coming-elsewhere : (e : Transfer) (es : List Transfer) (ps : List Place) → list_any (is_place e.to) ps ≡ false → map (entry_in es) ps ≡ map (entry_in (e ∷ es)) ps
coming-elsewhere e es [] away = refl
coming-elsewhere e es (p ∷ ps) away = elim (cases_Bool (is_place e.to p)) as (λ _. map (entry_in es) (p ∷ ps) ≡ map (entry_in (e ∷ es)) (p ∷ ps)) [
  | inl here ↦ (let no_one : true ≡ false = rw here at away in cc)
  | inr other ↦ (
      let head : entry_in es p ≡ entry_in (e ∷ es) p = sym (entry-cons e es p ∙ cond-false _ _ _ (is_place-swap p e.to ∙ other)) in
      let rest : list_any (is_place e.to) ps ≡ false = rw other at away in
      ap (λ (o : Option Vehicle). o ∷ map (entry_in es) ps) head ∙ ap (λ (os : List (Option Vehicle)). entry_in (e ∷ es) p ∷ os) (coming-elsewhere e es ps rest))
]

away-from : (q : Place) (ps : List Place) → times q ps ≡ 0 → list_any (is_place q) ps ≡ false
away-from q [] e = refl
away-from q (p ∷ ps) e =
    let cons = times-cons q p ps in
    elim (cases_Bool (is_place q p)) as (λ _. list_any (is_place q) (p ∷ ps) ≡ false) [
      | inl here ↦ absurd (let one : one_if (is_place q p) ≡ 1 = ap one_if here in omega arith)
      | inr other ↦ (let none : times q ps ≡ 0 = omega arith in rw other (away-from q ps none))
    ]

-- of lanes among which the entry's stands at k
pub coming-here : (e : Transfer) (es : List Transfer) (ps : List Place) (k : ℕ) → AtMostOnce ps → slice_get ps k ≡ Some e.to → set (map (entry_in es) ps) k (Some e.vehicle) ≡ map (entry_in (e ∷ es)) ps
coming-here e es [] k once at = cc
coming-here e es (p ∷ ps) zero once at =
    let same : p ≡ e.to = cc in
    let here : is_place p e.to ≡ true = ap (is_place p) (sym same) ∙ is_place-refl p in
    let one : one_if (is_place e.to p) ≡ 1 = ap one_if (is_place-swap e.to p ∙ here) in
    let cons = times-cons e.to p ps in
    let most = once e.to in
    let none : times e.to ps ≡ 0 = omega arith in
    ap (λ (o : Option Vehicle). o ∷ map (entry_in es) ps) (sym (entry-cons e es p ∙ cond-true _ _ _ here)) ∙ ap (λ (os : List (Option Vehicle)). entry_in (e ∷ es) p ∷ os) (coming-elsewhere e es ps (away-from e.to ps none))
coming-here e es (p ∷ ps) (suc k) once at =
    let other : is_place p e.to ≡ false = false_from_ne_true (is_place p e.to) (λ here.
    let one : one_if (is_place e.to p) ≡ 1 = ap one_if (is_place-swap e.to p ∙ here) in
    let cons = times-cons e.to p ps in
    let most = once e.to in
    let none : times e.to ps ≡ 0 = omega arith in
    both_ways (list_any (is_place e.to) ps) (away-from e.to ps none) (at-any ps k e.to at)) in
    ap (λ (o : Option Vehicle). o ∷ set (map (entry_in es) ps) k (Some e.vehicle)) (sym (entry-cons e es p ∙ cond-false _ _ _ other)) ∙ ap (λ (os : List (Option Vehicle)). entry_in (e ∷ es) p ∷ os) (coming-here e es ps k (once-rest p ps once) at)

-- ---- which tile

pub own-listed : (net : NetSpec) (low high : ℕ) (p : Place) → times p (places net) ≡ 1 → is_own net low high p ≡ true → list_any (is_place p) (own_places net low high) ≡ true
own-listed net low high p once own = true_from_ne_false (list_any (is_place p) (own_places net low high)) (λ away.
    let e = times-filter p (is_own net low high) (places net) in
    let f : times p (own_places net low high) ≡ times p (places net) = rw own at e in
    let none = none-times p (own_places net low high) away in
    absurd (omega arith))

-- a tile that does not own a lane does not list it
pub not-listed : (net : NetSpec) (low high : ℕ) (p : Place) → is_own net low high p ≡ false → list_any (is_place p) (own_places net low high) ≡ false
not-listed net low high p other =
    let e = times-filter p (is_own net low high) (places net) in
    let f : times p (own_places net low high) ≡ 0 = rw other at e in
    away-from p (own_places net low high) f

own-apart : (net : NetSpec) (a b c d : ℕ) (p : Place) → b ≤ c → is_own net a b p ≡ true → is_own net c d p ≡ false
own-apart net a b c d p le own = by_node (node_of net (link_at net p.link).to) own
  where
    by_node : (o : Option ℕ) → option_map_or (λ node. nat_le a node && nat_lt node b) o false ≡ true → option_map_or (λ node. nat_le c node && nat_lt node d) o false ≡ false
    by_node None e = cc
    by_node (Some node) e =
        let both = and_parts (nat_le a node) (nat_lt node b) e in
        let below = ltb-true node b both.1 in
        rw (lt-leb c node (omega arith)) refl

row-above : (net : NetSpec) (low high : ℕ) (xs : List TileView) → InRow net low high xs → (k : ℕ) (d : TileView) → k < length xs → low ≤ (get_or xs k d).low
row-above net low high [] r k d h = absurd (omega arith)
row-above net low high (x ∷ xs) r zero d h = let e = r.1 in omega arith
row-above net low high (x ∷ xs) r (suc k) d h = let rest = row-above net x.high high xs r.3 k d (omega arith) in let le = r.2 in omega arith

pub row-later : (net : NetSpec) (low high : ℕ) (xs : List TileView) → InRow net low high xs → (j k : ℕ) (d : TileView) → j < k → k < length xs → (get_or xs j d).high ≤ (get_or xs k d).low
row-later net low high [] r j k d h l = absurd (omega arith)
row-later net low high (x ∷ xs) r j zero d h l = absurd (omega arith)
row-later net low high (x ∷ xs) r zero (suc k) d h l = row-above net x.high high xs r.3 k d (omega arith)
row-later net low high (x ∷ xs) r (suc j) (suc k) d h l = row-later net x.high high xs r.3 j k d (omega arith) (omega arith)

-- a lane is one tile's
pub row-alone : (net : NetSpec) (low high : ℕ) (xs : List TileView) → InRow net low high xs → (j k : ℕ) (d : TileView) (p : Place) → (k ≡ j → ⊥) → j < length xs → k < length xs → is_own net (get_or xs j d).low (get_or xs j d).high p ≡ true → is_own net (get_or xs k d).low (get_or xs k d).high p ≡ false
row-alone net low high xs r j k d p ne hj hk own = elim (cases_lt j k) as (λ _. is_own net (get_or xs k d).low (get_or xs k d).high p ≡ false) [
  | inl later ↦ own-apart net (get_or xs j d).low (get_or xs j d).high (get_or xs k d).low (get_or xs k d).high p (row-later net low high xs r j k d later hk) own
  | inr not_later ↦ false_from_ne_true (is_own net (get_or xs k d).low (get_or xs k d).high p) (λ also.
      let earlier : k < j = omega arith in
      both_ways (is_own net (get_or xs j d).low (get_or xs j d).high p) (own-apart net (get_or xs k d).low (get_or xs k d).high (get_or xs j d).low (get_or xs j d).high p (row-later net low high xs r k j d earlier hj) also) own)
]

-- ---- one hand-over after another

-- a hand-over that is the last of tile i goes to tile j
pub moves-one : (net : NetSpec) (xs ys zs : List TileView) (i j : ℕ) (left : List Transfer) (e : Transfer) (es : List Transfer) → AreInRow net xs → length ys ≡ length xs → length zs ≡ length xs → i < length xs → j < length xs
    → ((k : ℕ) (d : TileView) → k < length xs → get_or ys k d ≡ record (get_or xs k d) { handed = if k == i then left else (get_or xs k d).handed })
    → ((d : TileView) → is_own net (get_or xs j d).low (get_or xs j d).high e.to ≡ true)
    → ((d : TileView) → get_or zs j d ≡ record (get_or ys j d) { coming = map (entry_in (e ∷ es)) (get_or ys j d).own.places })
    → ((k : ℕ) (d : TileView) → (k ≡ j → ⊥) → get_or zs k d ≡ get_or ys k d)
    → All (Awaits es) xs → IsMoved i left (e ∷ es) xs zs
moves-one net xs ys zs i j left e es row a b hi hj popped own brought kept awaits k d h = elim (cases_eq k j) as (λ _. get_or zs k d ≡ moved_at i left (e ∷ es) k (get_or xs k d)) [
  | inl same ↦ (
      let at_j : get_or zs k d ≡ record (get_or ys k d) { coming = map (entry_in (e ∷ es)) (get_or ys k d).own.places } = rw same (brought d) in
      at_j ∙ ap (λ (t : TileView). record t { coming = map (entry_in (e ∷ es)) t.own.places }) (popped k d h))
  | inr other ↦ (
      let x : TileView = get_or xs k d in
      let apart = row-alone net 0 (length net.nodes) xs row j k d e.to other hj h (own d) in
      let tile = tiles-of net 0 (length net.nodes) xs row k d h in
      let away : list_any (is_place e.to) x.own.places ≡ false = subst (λ (ps : List Place). list_any (is_place e.to) ps ≡ false) (sym tile.places) (not-listed net x.low x.high e.to apart) in
      let coming : x.coming ≡ map (entry_in (e ∷ es)) x.own.places = awaits k d h ∙ coming-elsewhere e es x.own.places away in
      kept k d other ∙ popped k d h ∙ ap (λ (os : List (Option Vehicle)). record x { handed = if k == i then left else x.handed; coming = os }) coming)
]

-- a tile from which hand-overs were taken
pub popped-at : (xs : List TileView) (i : ℕ) (y d : TileView) → i < length xs → y ≡ record (get_or xs i d) { handed = y.handed } → (k : ℕ) (e : TileView) → k < length xs → get_or (set xs i y) k e ≡ record (get_or xs k e) { handed = if k == i then y.handed else (get_or xs k e).handed }
popped-at xs i y d h is k e l = elim (cases_eq k i) as (λ _. get_or (set xs i y) k e ≡ record (get_or xs k e) { handed = if k == i then y.handed else (get_or xs k e).handed }) [
  | inl same ↦ rw same (get_or-set_same xs i y e h ∙ is ∙ ap (λ (x : TileView). record x { handed = y.handed }) (get_or_default xs i d e h) ∙ ap (λ (es : List Transfer). record (get_or xs i e) { handed = es }) (sym (cond-true _ _ _ (eq-eqb i i refl))))
  | inr other ↦ get_or-set_other xs i k y e other ∙ ap (λ (es : List Transfer). record (get_or xs k e) { handed = es }) (sym (cond-false _ _ _ (ne_eqb k i other)))
]

pub popped-same : (xs : List TileView) (i : ℕ) (y d : TileView) → i < length xs → y ≡ record (get_or xs i d) { handed = y.handed } → Each SameTile xs (set xs i y)
popped-same xs i y d h is k e l = same-moved (get_or xs k e) (get_or (set xs i y) k e) _ _ (popped-at xs i y d h is k e l)

pub last-holds : (P : Transfer → Type 0) (es : List Transfer) (e : Transfer) → All P (es ++ e ∷ []) → P e
last-holds P es e all = subst P (get_or_push es e e (length es) refl) (all (length es) e (omega (arith, length_push es e)))

pub moved-start : (xs : List TileView) (i : ℕ) (d : TileView) (es : List Transfer) → i < length xs → All (Awaits es) xs → IsMoved i (get_or xs i d).handed es xs xs
moved-start xs i d es h awaits k e l = elim (cases_eq k i) as (λ _. get_or xs k e ≡ moved_at i (get_or xs i d).handed es k (get_or xs k e)) [
  | inl same ↦ (
      let x : TileView = get_or xs k e in
      let is : x.handed ≡ (get_or xs i d).handed = ap (λ (j : ℕ). (get_or xs j e).handed) same ∙ ap (λ (t : TileView). t.handed) (get_or_default xs i e d h) in
      ap (λ (os : List (Option Vehicle)). record x { coming = os }) (awaits k e l)
      ∙ ap (λ (hs : List Transfer). record x { handed = hs; coming = map (entry_in es) x.own.places }) (is ∙ sym (cond-true _ _ _ (eq-eqb k i same))))
  | inr other ↦ (
      let x : TileView = get_or xs k e in
      ap (λ (os : List (Option Vehicle)). record x { coming = os }) (awaits k e l)
      ∙ ap (λ (hs : List Transfer). record x { handed = hs; coming = map (entry_in es) x.own.places }) (sym (cond-false _ _ _ (ne_eqb k i other))))
]

-- two moves from one tile
pub moves-more : (xs ys zs : List TileView) (i : ℕ) (left more : List Transfer) (es fs : List Transfer) → length ys ≡ length xs → IsMoved i left es xs ys → IsMoved i more fs ys zs → IsMoved i more fs xs zs
moves-more xs ys zs i left more es fs a first second k d h =
    second k d (omega arith) ∙ ap (moved_at i more fs k) (first k d h)
    ∙ (elim (cases_Bool (k == i)) as (λ _. moved_at i more fs k (moved_at i left es k (get_or xs k d)) ≡ moved_at i more fs k (get_or xs k d)) [
      | inl here ↦ rw here refl
      | inr other ↦ rw other refl
    ])

pub moved-awaits : (xs ys : List TileView) (i : ℕ) (left es : List Transfer) → length ys ≡ length xs → IsMoved i left es xs ys → All (Awaits es) ys
moved-awaits xs ys i left es a moved k d h = let is = moved k d (omega arith) in ap (λ (t : TileView). t.coming) is ∙ ap (λ (t : TileView). map (entry_in es) t.own.places) (sym is)

pub moved-same : (xs ys : List TileView) (i : ℕ) (left es : List Transfer) → IsMoved i left es xs ys → Each SameTile xs ys
moved-same xs ys i left es moved k d h = same-moved (get_or xs k d) (get_or ys k d) _ _ (moved k d h)

lanes-either : (net : NetSpec) (b : Bool) (es fs : List Transfer) → All (λ (e : Transfer). IsLane net e.to) es → All (λ (e : Transfer). IsLane net e.to) fs → All (λ (e : Transfer). IsLane net e.to) (if b then es else fs)
lanes-either net true es fs first second = first
lanes-either net false es fs first second = second

pub moved-lanes : (net : NetSpec) (xs ys : List TileView) (i : ℕ) (left es : List Transfer) → length ys ≡ length xs → IsMoved i left es xs ys → All (λ (e : Transfer). IsLane net e.to) left → All (λ x. All (λ (e : Transfer). IsLane net e.to) x.handed) xs → All (λ x. All (λ (e : Transfer). IsLane net e.to) x.handed) ys
moved-lanes net xs ys i left es a moved of_left of_xs k d h =
    let is : (get_or ys k d).handed ≡ (if k == i then left else (get_or xs k d).handed) = ap (λ (t : TileView). t.handed) (moved k d (omega arith)) in
    subst (All (λ (e : Transfer). IsLane net e.to)) (sym is) (lanes-either net (k == i) left (get_or xs k d).handed of_left (of_xs k d (omega arith)))

no_entry : Transfer
no_entry = record { to = record { link = 0; lane = 0 }; vehicle = record { number = 0; size = 1; speed = 0; plan = []; position = 0 } }

-- one more of the hand-overs of tile i, from the last on
pub moves-step : (xs ys zs : List TileView) (i n : ℕ) (d : TileView) (es : List Transfer) → i < length xs → n < length (get_or xs i d).handed → length ys ≡ length xs
    → IsMoved i (take (n + 1) (get_or xs i d).handed) (drop (n + 1) (get_or xs i d).handed ++ es) xs ys
    → ((left : List Transfer) (e : Transfer) (fs : List Transfer) (d' : TileView) → (get_or ys i d').handed ≡ left ++ e ∷ [] → All (Awaits fs) ys → IsMoved i left (e ∷ fs) ys zs)
    → IsMoved i (take n (get_or xs i d).handed) (drop n (get_or xs i d).handed ++ es) xs zs
moves-step xs ys zs i n d es hi hn a first one =
    let hs : List Transfer = (get_or xs i d).handed in
    let e : Transfer = get_or hs n no_entry in
    let fs : List Transfer = drop (n + 1) hs ++ es in
    let left_is : (get_or ys i d).handed ≡ take n hs ++ e ∷ [] = ap (λ (t : TileView). t.handed) (first i d hi) ∙ cond-true _ _ _ (eq-eqb i i refl) ∙ take_more hs n no_entry hn in
    let awaits = moved-awaits xs ys i (take (n + 1) hs) fs a first in
    let next : IsMoved i (take n hs) (e ∷ fs) ys zs = one (take n hs) e fs d left_is awaits in
    let rest : e ∷ fs ≡ drop n hs ++ es = sym (ap (λ (gs : List Transfer). gs ++ es) (drop_more hs n no_entry hn)) in
    subst (λ (gs : List Transfer). IsMoved i (take n hs) gs xs zs) rest (moves-more xs ys zs i (take (n + 1) hs) (take n hs) fs (e ∷ fs) a first next)

-- what is left of them leads to lanes of the network
pub moved-left : (net : NetSpec) (hs : List Transfer) (n : ℕ) → All (λ (e : Transfer). IsLane net e.to) hs → All (λ (e : Transfer). IsLane net e.to) (take n hs)
moved-left net hs n all = All-take (λ (e : Transfer). IsLane net e.to) n hs all

-- ---- one tile after another

-- the hand-overs of the tiles before i are moved
pub record IsMovedUpTo (xs : List TileView) (i : ℕ) (ys : List TileView) : Type 0 where
  pub long : length ys ≡ length xs
  pub each : (j : ℕ) (d : TileView) → j < length xs → get_or ys j d ≡ record (get_or xs j d) { handed = if nat_lt j i then [] else (get_or xs j d).handed; coming = map (entry_in (all_handed (take i xs))) (get_or xs j d).own.places }

pub up-to-start : (xs : List TileView) → All (λ x. x.coming ≡ nobody x) xs → IsMovedUpTo xs 0 xs
up-to-start xs none = record { long = refl; each = λ j d h. ap (λ (os : List (Option Vehicle)). record (get_or xs j d) { coming = os }) (none j d h) ∙ ap (λ (es : List Transfer). record (get_or xs j d) { handed = es; coming = nobody (get_or xs j d) }) (sym (cond-false _ _ _ (le-ltb j 0 (omega arith)))) }

pub up-to-awaits : (xs ys : List TileView) (i : ℕ) → IsMovedUpTo xs i ys → All (Awaits (all_handed (take i xs))) ys
up-to-awaits xs ys i m k d h = let l = m.long in let is = m.each k d (omega arith) in ap (λ (t : TileView). t.coming) is ∙ ap (λ (t : TileView). map (entry_in (all_handed (take i xs))) t.own.places) (sym is)

pub up-to-same : (xs ys : List TileView) (i : ℕ) → IsMovedUpTo xs i ys → Each SameTile xs ys
up-to-same xs ys i m k d h = same-moved (get_or xs k d) (get_or ys k d) _ _ (m.each k d h)

pub up-to-lanes : (net : NetSpec) (xs ys : List TileView) (i : ℕ) → IsMovedUpTo xs i ys → All (λ x. All (λ (e : Transfer). IsLane net e.to) x.handed) xs → All (λ x. All (λ (e : Transfer). IsLane net e.to) x.handed) ys
up-to-lanes net xs ys i m of_xs k d h =
    let l = m.long in
    let is : (get_or ys k d).handed ≡ (if nat_lt k i then [] else (get_or xs k d).handed) = ap (λ (t : TileView). t.handed) (m.each k d (omega arith)) in
    subst (All (λ (e : Transfer). IsLane net e.to)) (sym is) (lanes-either net (nat_lt k i) [] (get_or xs k d).handed (λ n e g. absurd (omega arith)) (of_xs k d (omega arith)))

pub up-to-next : (xs ys zs : List TileView) (i : ℕ) → i < length xs → IsMovedUpTo xs i ys → length zs ≡ length ys → ((d : TileView) → IsMoved i [] ((get_or ys i d).handed ++ all_handed (take i xs)) ys zs) → IsMovedUpTo xs (i + 1) zs
up-to-next xs ys zs i h m a moved = record {
  long = a ∙ m.long;
  each = λ j d l.
      let long = m.long in
      let own : (get_or ys i d).handed ≡ (get_or xs i d).handed = ap (λ (t : TileView). t.handed) (m.each i d h) ∙ cond-false _ _ _ (le-ltb i i (omega arith)) in
      let all : (get_or ys i d).handed ++ all_handed (take i xs) ≡ all_handed (take (i + 1) xs) =
      ap (λ (es : List Transfer). es ++ all_handed (take i xs)) own ∙ sym (all_handed-push (take i xs) (get_or xs i d)) ∙ sym (ap all_handed (take_more xs i d h)) in
      let x : TileView = get_or xs j d in
      let is = moved d j d (omega arith) in
      is ∙ ap (moved_at i [] ((get_or ys i d).handed ++ all_handed (take i xs)) j) (m.each j d l)
      ∙ ap (λ (es : List Transfer). record x { handed = if j == i then [] else if nat_lt j i then [] else x.handed; coming = map (entry_in es) x.own.places }) all
      ∙ ap (λ (es : List Transfer). record x { handed = es; coming = map (entry_in (all_handed (take (i + 1) xs))) x.own.places }) (left j x);
}
  where
    left : (j : ℕ) (x : TileView) → (if j == i then [] else if nat_lt j i then [] else x.handed) ≡ (if nat_lt j (i + 1) then [] else x.handed)
    left j x = elim (cases_eq j i) as (λ _. (if j == i then [] else if nat_lt j i then [] else x.handed) ≡ (if nat_lt j (i + 1) then [] else x.handed)) [
      | inl same ↦ rw (eq-eqb j i same, lt-ltb j (i + 1) (omega arith)) refl
      | inr other ↦ elim (cases_lt j i) as (λ _. (if j == i then [] else if nat_lt j i then [] else x.handed) ≡ (if nat_lt j (i + 1) then [] else x.handed)) [
        | inl below ↦ rw (ne_eqb j i other, lt-ltb j i below, lt-ltb j (i + 1) (omega arith)) refl
        | inr above ↦ rw (ne_eqb j i other, le-ltb j i above, le-ltb j (i + 1) (omega arith)) refl
      ]
    ]

pub up-to-all : (xs ys : List TileView) (i : ℕ) → length xs ≤ i → IsMovedUpTo xs i ys → Each (λ x y. y ≡ received (all_handed xs) x) xs ys
up-to-all xs ys i all m j d h =
    m.each j d h
    ∙ ap (λ (es : List Transfer). record (get_or xs j d) { handed = es; coming = map (entry_in (all_handed (take i xs))) (get_or xs j d).own.places }) (cond-true _ _ _ (lt-ltb j i (omega arith)))
    ∙ ap (λ (ts : List TileView). record (get_or xs j d) { handed = []; coming = map (entry_in (all_handed ts)) (get_or xs j d).own.places }) (take_all i xs all)
