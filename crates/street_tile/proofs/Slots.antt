-- Who comes to each lane, and the bits of the lanes to which somebody comes.
use Rattle.std.proofs.Common.{◌≡◌, ◌≢◌, ℕ, ◌+◌, ◌*◌, ◌<◌, ◌≤◌, Bool, true, false, List, length, map, set, get_or, replicate, refl, sym, ◌∙◌, subst, arith, inl, inr, Option, None}
use Rattle.std.proofs.lemmas.Bool.{cases_eq, cases_lt, true≢false}
use Rattle.std.proofs.lemmas.List.{length-set, length-map, length-replicate, ext_get_or, get_or-map, get_or-replicate, get_or_past, get_or-set_same, get_or-set_other}
use Rattle.street_tile.specs.Prelude.{Transfer, AreMarked}

-- at first nobody comes to any lane
pub marked-none : (lanes : ℕ) (bits : List Bool) → 3 * lanes < length bits → AreMarked (replicate lanes None) bits
marked-none lanes bits many = record {
  many = rw length-replicate many;
  nobody = λ n off. elim (cases_lt n lanes) as (λ _. get_or {A = Option Transfer} (replicate lanes None) n None ≡ None) [
    | inl lt ↦ get_or-replicate lanes n None None lt
    | inr ge ↦ get_or_past (replicate lanes None) n None (rw length-replicate ge)
  ];
}

pub none-set : (cs : List (Option Transfer)) (n : ℕ) → get_or (set cs n None) n None ≡ None
none-set cs n = elim (cases_lt n (length cs)) as (λ _. get_or (set cs n None) n None ≡ None) [
  | inl lt ↦ get_or-set_same cs n None None lt
  | inr ge ↦ get_or_past (set cs n None) n None (rw length-set ge)
]

module _ (cs : List (Option Transfer)) (bits : List Bool) (are : AreMarked cs bits) (n : ℕ) (here : n < length cs) where
  pub bit-there : 3 * n < length bits
  bit-there = let many = are.many in omega (arith, many)

  -- the lanes but n are as they were
  others : (x : Option Transfer) (b : Bool) (k : ℕ) → k ≢ n → get_or (set bits (3 * n) b) (3 * k) false ≡ false → get_or (set cs n x) k None ≡ None
  others x b k ne off = get_or-set_other cs n k x None ne ∙ are.nobody k (sym (get_or-set_other bits (3 * n) (3 * k) b false (λ e. ne (omega (arith, e)))) ∙ off)

  -- somebody comes to lane n
  pub marked-put : (x : Option Transfer) → AreMarked (set cs n x) (set bits (3 * n) true)
  marked-put x = record {
    many = rw (length-set, length-set) are.many;
    nobody = λ k off. elim (cases_eq k n) as (λ _. get_or (set cs n x) k None ≡ None) [
      | inl e ↦ absurd (true≢false (sym (get_or-set_same bits (3 * n) true false bit-there) ∙ subst (λ j. get_or (set bits (3 * n) true) (3 * j) false ≡ false) e off))
      | inr ne ↦ others x true k ne off
    ];
  }

  -- nobody comes to it any more
  pub marked-taken : AreMarked (set cs n None) (set bits (3 * n) false)
  marked-taken = record {
    many = rw (length-set, length-set) are.many;
    nobody = λ k off. elim (cases_eq k n) as (λ _. get_or (set cs n None) k None ≡ None) [
      | inl e ↦ rw e (none-set cs n)
      | inr ne ↦ others None false k ne off
    ];
  }

-- ---- who comes is taken, from one lane to the next

-- nobody comes any more to the lanes before k, and whoever came to the others
pub record TakenTo (old : List (Option Transfer)) (k : ℕ) (now : List (Option Transfer)) : Type 0 where
  pub long : length now ≡ length old
  pub taken : (j : ℕ) → j < k → get_or now j None ≡ None
  pub rest : (j : ℕ) → k ≤ j → get_or now j None ≡ get_or old j None

pub taken-start : (old : List (Option Transfer)) → TakenTo old 0 old
taken-start old = record { long = refl; taken = λ j below. absurd (omega arith); rest = λ j above. refl }

pub taken-next : (old : List (Option Transfer)) (k : ℕ) (now : List (Option Transfer)) → TakenTo old k now → TakenTo old (k + 1) (set now k None)
taken-next old k now t = record {
  long = length-set now k None ∙ t.long;
  taken = λ j below. elim (cases_eq j k) as (λ _. get_or (set now k None) j None ≡ None) [
    | inl e ↦ rw e (none-set now k)
    | inr ne ↦ get_or-set_other now k j None None ne ∙ t.taken j (omega arith)
  ];
  rest = λ j above. get_or-set_other now k j None None (λ e. absurd (omega arith)) ∙ t.rest j (omega arith);
}

-- the lanes from k on and before l, to which nobody comes
pub taken-over : (old : List (Option Transfer)) (k l : ℕ) (now : List (Option Transfer)) → k ≤ l → ((j : ℕ) → k ≤ j → j < l → get_or now j None ≡ None) → TakenTo old k now → TakenTo old l now
taken-over old k l now le nobody t = record {
  long = t.long;
  taken = λ j below. elim (cases_lt j k) as (λ _. get_or now j None ≡ None) [
    | inl sooner ↦ t.taken j sooner
    | inr later ↦ nobody j later below
  ];
  rest = λ j above. t.rest j (omega arith);
}

abbrev none : Option Transfer → Option Transfer
none c = None

pub taken-all : (old : List (Option Transfer)) (k : ℕ) (now : List (Option Transfer)) → length old ≤ k → TakenTo old k now → now ≡ map (λ c. None) old
taken-all old k now all t = ext_get_or None now (map none old) (t.long ∙ sym (length-map old none)) (λ j h. t.taken j (let long = t.long in omega arith) ∙ sym (nobody old j))
  where
    nobody : (cs : List (Option Transfer)) (j : ℕ) → get_or (map none cs) j None ≡ None
    nobody cs j = elim (cases_lt j (length cs)) as (λ _. get_or (map none cs) j None ≡ None) [
      | inl lt ↦ get_or-map none cs j None None lt
      | inr ge ↦ get_or_past (map none cs) j None (rw (length-map cs none) ge)
    ]
