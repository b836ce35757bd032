-- The row of who arrived from a lane, found among those of all lanes by the slot.
use Rattle.std.proofs.Common.{◌≡◌, ℕ, zero, suc, ◌<◌, List, [], ◌∷◌, length, map, filter_map, get_or, refl, sym, ap, subst, ◌∙◌, arith, Option, Some, None, option_map, option_to_list, slice_get, Contains}
use Rattle.std.specs.List.{FoldsTo, cons_option}
use Rattle.std.proofs.lemmas.List.{map-append}
use Rattle.street_base.specs.declared.names.Place.{Place}
use Rattle.street_base.specs.declared.record.RecordRow.{RecordRow}
use Rattle.street_base.specs.Prelude.{Vehicle, Traffic, arrived_row, arriving, arrival_rows, lane_at, lane_rows, leaver_of, slot_of}
use Rattle.street_record.specs.Rows.{as_written, arrival_row, arrival_at, rows_at, FindsRow}
use Rattle.street_record.proofs.Folds.{folds-on}

-- a row that is told of one of these lanes is among all
module _ {A : Type 0} (tell : Place → Option A) where
  among-more : (o : Option A) (xs : List A) (x : A) → Contains xs x → Contains (cons_option o xs) x
  among-more None xs x has = has
  among-more (Some y) xs x has = (suc has.0, (let h = has.1 in omega arith), has.2)

  among-first : (o : Option A) (xs : List A) (x : A) → o ≡ Some x → Contains (cons_option o xs) x
  among-first None xs x is = absurd (cc)
  among-first (Some y) xs x is = (let same : y ≡ x = cc in (0, omega arith, same))

  pub told-among : (ps : List Place) (k : ℕ) (p : Place) (x : A) → slice_get ps k ≡ Some p → tell p ≡ Some x → Contains (filter_map tell ps) x
  told-among [] k p x at is = absurd (cc)
  told-among (q ∷ ps) zero p x at is = (let same : q ≡ p = cc in among-first (tell q) (filter_map tell ps) x (ap tell same ∙ is))
  told-among (q ∷ ps) (suc k) p x at is = among-more (tell q) (filter_map tell ps) x (told-among ps k p x at is)

  -- and one among all is told of one of them
  pub record IsTold (ps : List Place) (x : A) : Type 0 where
    pub place : Place
    pub k : ℕ
    pub there : slice_get ps k ≡ Some place
    pub told : tell place ≡ Some x

  pub among-told : (ps : List Place) (j : ℕ) (x : A) → j < length (filter_map tell ps) → get_or (filter_map tell ps) j x ≡ x → IsTold ps x
  among-told [] j x h is = absurd (omega arith)
  among-told (q ∷ ps) j x h is = by_told (tell q) refl j h is (among-told ps)
    where
      later : IsTold ps x → IsTold (q ∷ ps) x
      later a = record { place = a.place; k = suc a.k; there = a.there; told = a.told }

      by_told : (o : Option A) → tell q ≡ o → (j : ℕ) → j < length (cons_option o (filter_map tell ps)) → get_or (cons_option o (filter_map tell ps)) j x ≡ x
          → ((j : ℕ) (x : A) → j < length (filter_map tell ps) → get_or (filter_map tell ps) j x ≡ x → IsTold ps x) → IsTold (q ∷ ps) x
      by_told None e j h is others = later (others j x h is)
      by_told (Some y) e zero h is others = record { place = q; k = 0; there = refl; told = e ∙ ap (λ (z : A). Some z) is }
      by_told (Some y) e (suc j) h is others = later (others j x (omega arith) is)

-- a slot is that of one lane
slot-one : (p q : Place) → p.lane < 2 → q.lane < 2 → slot_of q ≡ slot_of p → q ≡ p
slot-one p q a b same =
    let link : q.link ≡ p.link = omega arith in
    let lane : q.lane ≡ p.lane = omega arith in
    λ i. record { link = link i; lane = lane i }

row-slot : (p : Place) (a : Option Vehicle) (row : RecordRow) → option_map (arrived_row (slot_of p)) a ≡ Some row → row.slot ≡ slot_of p
row-slot p None row e = absurd (cc)
row-slot p (Some v) row e = (let same : arrived_row (slot_of p) v ≡ row = cc in sym (ap (λ (r : RecordRow). r.slot) same))

module _ (leaver : Place → Option Vehicle) (ps : List Place) (two : (k : ℕ) (p : Place) → slice_get ps k ≡ Some p → p.lane < 2) (k : ℕ) (p : Place) (at : slice_get ps k ≡ Some p) where
  -- what is found by a lane's slot is who arrived from it
  pub found-is : (found : Option RecordRow) → FindsRow (filter_map (λ q. arrival_row q (leaver q)) ps) (slot_of p) found → found ≡ arrival_row p (leaver p)
  found-is None none = by_row (arrival_row p (leaver p)) refl
    where
      by_row : (o : Option RecordRow) → arrival_row p (leaver p) ≡ o → None ≡ o
      by_row None e = refl
      by_row (Some row) e =
          let has = told-among (λ q. arrival_row q (leaver q)) ps k p row at e in
          absurd (none has.0 row has.1 (ap (λ (r : RecordRow). r.slot) has.2 ∙ row-slot p (arriving (leaver p)) row e))
  found-is (Some row) finds =
      let has = finds.0 in
      let told = among-told (λ q. arrival_row q (leaver q)) ps has.0 row has.1 has.2 in
      let slot : slot_of told.place ≡ slot_of p = sym (row-slot told.place (arriving (leaver told.place)) row told.told) ∙ finds.1 in
      let same : told.place ≡ p = slot-one p told.place (two k p at) (two told.k told.place told.there) slot in
      sym (ap (λ (q : Place). arrival_row q (leaver q)) (sym same) ∙ told.told)

-- the row of who arrived is as it is written
arrival-written : (p : Place) (a : Option Vehicle) → option_to_list (option_map (arrived_row (slot_of p)) a) ≡ map as_written (option_to_list (option_map (arrived_row (slot_of p)) a))
arrival-written p None = refl
arrival-written p (Some v) = refl

-- the rows of a lane's vehicles, and then who arrived from it
pub lane-given : {S : Type 0} (takes : S → RecordRow → S → Type 0) (old mid new : S) (before after : Traffic) (p : Place) (found : Option RecordRow)
    → FoldsTo takes old (map as_written (lane_rows (slot_of p) (lane_at after p))) mid → found ≡ arrival_at before p → FoldsTo takes mid (option_to_list found) new → FoldsTo takes old (map as_written (rows_at before after p)) new
lane-given takes old mid new before after p found lane is one =
    let rows = lane_rows (slot_of p) (lane_at after p) in
    let arrival = arrival_rows (slot_of p) (leaver_of before p) in
    let written : option_to_list found ≡ map as_written arrival = ap (λ (o : Option RecordRow). option_to_list o) is ∙ arrival-written p (arriving (leaver_of before p)) in
    subst (λ (l : List RecordRow). FoldsTo takes old l new) (sym (map-append as_written rows arrival))
    (folds-on takes old mid new (map as_written rows) (map as_written arrival) lane (subst (λ (l : List RecordRow). FoldsTo takes mid l new) written one))
