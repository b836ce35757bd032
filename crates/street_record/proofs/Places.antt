-- Rows that are given link by link and lane by lane are those of all lanes.
use Rattle.std.proofs.Common.{◌≡◌, ℕ, List, [], ◌∷◌, ◌++◌, length, map, flat_map, refl, sym, ap, ◌∙◌}
use Rattle.std.specs.List.{range_with_len}
use Rattle.std.proofs.lemmas.Grind.{flat_map-append}
use Rattle.std.proofs.lemmas.List.{map-append}
use Rattle.street_base.specs.declared.names.Place.{Place}
use Rattle.street_base.specs.declared.net.NetSpec.{NetSpec}
use Rattle.street_base.specs.Prelude.{link_at, places}

module _ {A : Type 0} (write : A → A) (rows : Place → List A) (lanes : ℕ → ℕ) where
  of-link : (link : ℕ) (ks : List ℕ) → flat_map (λ k. map write (rows (record { link = link; lane = k }))) ks ≡ map write (flat_map rows (map (λ k. record { link = link; lane = k }) ks))
  of-link link [] = refl
  of-link link (k ∷ ks) =
      ap (λ (l : List A). map write (rows (record { link = link; lane = k })) ++ l) (of-link link ks)
      ∙ sym (map-append write (rows (record { link = link; lane = k })) (flat_map rows (map (λ k. record { link = link; lane = k }) ks)))

  of-links : (links : List ℕ) → flat_map (λ i. flat_map (λ k. map write (rows (record { link = i; lane = k }))) (range_with_len 0 (lanes i))) links
      ≡ map write (flat_map rows (flat_map (λ i. map (λ k. record { link = i; lane = k }) (range_with_len 0 (lanes i))) links))
  of-links [] = refl
  of-links (i ∷ links) =
      let here = of-link i (range_with_len 0 (lanes i)) in
      let rest = of-links links in
      let own = map (λ k. record { link = i; lane = k }) (range_with_len 0 (lanes i)) in
      let others = flat_map (λ j. map (λ k. record { link = j; lane = k }) (range_with_len 0 (lanes j))) links in
      (λ at. here at ++ rest at)
      ∙ sym (map-append write (flat_map rows own) (flat_map rows others))
      ∙ ap (map write) (sym (flat_map-append rows own others))

pub of-places : (net : NetSpec) {A : Type 0} (write : A → A) (rows : Place → List A)
    → flat_map (λ i. flat_map (λ k. map write (rows (record { link = i; lane = k }))) (range_with_len 0 (link_at net i).lanes)) (range_with_len 0 (length net.links)) ≡ map write (flat_map rows (places net))
of-places net write rows = of-links write rows (λ i. (link_at net i).lanes) (range_with_len 0 (length net.links))
