-- The lanes that run to a node, link by link.
use Rattle.std.proofs.Common.{◌≡◌, ℕ, zero, suc, ◌+◌, Bool, true, false, List, [], ◌∷◌, ◌++◌, map, refl, sym, ◌∙◌, ap, zero-add, flat_map, filter, Some, ◌==◌}
use Rattle.std.specs.Option.{option_map_or}
use Rattle.std.specs.List.{range_with_len}
use Rattle.std.proofs.lemmas.Bool.{cond-true, cond-false, eq-eqb, ne_eqb}
use Rattle.std.proofs.lemmas.List.{append-nil}
use Rattle.std.proofs.lemmas.List.FromFn.{map-range_with_len_more}
use Rattle.std.proofs.lemmas.List.Elements.{filter-append}
use Rattle.std.proofs.lemmas.Grind.{flat_map-append}
use Rattle.street_base.specs.declared.net.NetSpec.{NetSpec}
use Rattle.street_base.specs.declared.names.Place.{Place}
use Rattle.street_base.specs.Prelude.{link_at, node_of}
use Rattle.street_net.specs.Prelude.{ends_at}

-- the lanes of a link
abbrev pub lanes_of : NetSpec → ℕ → List Place
lanes_of net i = map (λ k. record { link = i; lane = k }) (range_with_len 0 (link_at net i).lanes)

-- the lanes of the first so many links
abbrev pub places_below : NetSpec → ℕ → List Place
places_below net i = flat_map (lanes_of net) (range_with_len 0 i)

range-more : (a n : ℕ) → range_with_len a (n + 1) ≡ range_with_len a n ++ (a + n) ∷ []
range-more a n = sym (map-self (range_with_len a (n + 1))) ∙ map-range_with_len_more (λ k. k) a n (a + n) refl ∙ ap (λ ks. ks ++ (a + n) ∷ []) (map-self (range_with_len a n))
  where
    map-self : (ks : List ℕ) → map (λ k. k) ks ≡ ks
    map-self [] = refl
    map-self (k ∷ ks) = ap (λ rest. k ∷ rest) (map-self ks)

pub places-more : (net : NetSpec) (i : ℕ) → places_below net (i + 1) ≡ places_below net i ++ lanes_of net i
places-more net i =
    ap (flat_map (lanes_of net)) (range-more 0 i ∙ ap (λ k. range_with_len 0 i ++ k ∷ []) (zero-add i))
    ∙ flat_map-append (lanes_of net) (range_with_len 0 i) (i ∷ [])
    ∙ ap (λ ps. places_below net i ++ ps) (append-nil (lanes_of net i))

-- a test that depends on the link alone keeps all its lanes, or none
all-kept : (test : Place → Bool) (i a n : ℕ) → ((k : ℕ) → test (record { link = i; lane = k }) ≡ true) → filter test (map (λ k. record { link = i; lane = k }) (range_with_len a n)) ≡ map (λ k. record { link = i; lane = k }) (range_with_len a n)
all-kept test i a zero h = refl
all-kept test i a (suc n) h = cond-true _ _ _ (h a) ∙ ap (λ ps. record { link = i; lane = a } ∷ ps) (all-kept test i (a + 1) n h)

none-kept : (test : Place → Bool) (i a n : ℕ) → ((k : ℕ) → test (record { link = i; lane = k }) ≡ false) → filter test (map (λ k. record { link = i; lane = k }) (range_with_len a n)) ≡ []
none-kept test i a zero h = refl
none-kept test i a (suc n) h = cond-false _ _ _ (h a) ∙ none-kept test i (a + 1) n h

-- the lanes of a link are added to those of the node that it runs to, and to no other
pub landed-here : (net : NetSpec) (i end : ℕ) → node_of net (link_at net i).to ≡ Some end → filter (ends_at net end) (places_below net (i + 1)) ≡ filter (ends_at net end) (places_below net i) ++ lanes_of net i
landed-here net i end is =
    ap (filter (ends_at net end)) (places-more net i)
    ∙ filter-append (ends_at net end) (places_below net i) (lanes_of net i)
    ∙ ap (λ ps. filter (ends_at net end) (places_below net i) ++ ps) (all-kept (ends_at net end) i 0 (link_at net i).lanes (λ k. ap (λ o. option_map_or (λ e. e == end) o false) is ∙ eq-eqb end end refl))

pub landed-elsewhere : (net : NetSpec) (i end node : ℕ) → node_of net (link_at net i).to ≡ Some end → (node ≡ end → ⊥) → filter (ends_at net node) (places_below net (i + 1)) ≡ filter (ends_at net node) (places_below net i)
landed-elsewhere net i end node is other =
    ap (filter (ends_at net node)) (places-more net i)
    ∙ filter-append (ends_at net node) (places_below net i) (lanes_of net i)
    ∙ ap (λ ps. filter (ends_at net node) (places_below net i) ++ ps) (none-kept (ends_at net node) i 0 (link_at net i).lanes (λ k. ap (λ o. option_map_or (λ e. e == node) o false) is ∙ ne_eqb end node (λ e. other (sym e))))
    ∙ append-nil (filter (ends_at net node) (places_below net i))

-- the lanes of a node's list, with those of a link that runs to the node
pub landed : (net : NetSpec) (i end : ℕ) → node_of net (link_at net i).to ≡ Some end → (before : List Place) (link lanes : ℕ) → link ≡ i → lanes ≡ (link_at net i).lanes → before ≡ filter (ends_at net end) (places_below net i) → before ++ map (λ k. record { link = link; lane = k }) (range_with_len 0 lanes) ≡ filter (ends_at net end) (places_below net (i + 1))
landed net i end is before link lanes same_link same_lanes was =
    ap (λ ps. ps ++ (map (λ k. record { link = link; lane = k }) (range_with_len 0 lanes))) was
    ∙ ap (λ ps. filter (ends_at net end) (places_below net i) ++ ps) (rw (same_link, same_lanes) refl)
    ∙ sym (landed-here net i end is)
