use Rattle.std.proofs.Common.{◌≡◌, ◌-◌, [], ◌∷◌, ◌++◌, List, ℕ, length, None, Some, sym, ap, ◌∙◌, arith}
use Rattle.json.specs.Token.{Token}
use Rattle.json.specs.Json.{parse_map, after_end_array, items, value}
use Rattle.serde_json.specs.Read.{of_items, converted}
use Rattle.street_text.specs.ReplyLines.{number_data}
use Rattle.street_text.proofs.Converted.{item_read, items_over}
use Rattle.street_text.proofs.FlatReading.{none_before, number_read, numbers_before, numbers_before-no_items, one_more_number}
use Rattle.street_text.proofs.flat.read_numbers.Goals as goal

pub items-init : goal.items-init
items-init c =
    let none : c.in_ok-found.found.items ≡ [] = grind arith in
    (length c.args.reader.now, omega arith, λ depth. rw none (none_before _), omega arith)

pub items-preserved : goal.items-preserved
items-preserved c =
    let l = c.items in
    let n = l.invariant.0 in
    let ts = c.next.new.self in
    let s = c.in-Number.text.now in
    let k = c.in_ok-whole_number.field-0 in
    let going : (after_end_array l.reader ≡ None) × (c.take_end_array.new.self ≡ l.reader) = grind arith in
    let first : c.take_end_array.new.self ≡ Token.number s ∷ ts = grind arith in
    let next : l.reader ≡ Token.number s ∷ ts = sym going.1 ∙ first in
    let size = ap length next in
    let pushed : c.push.new.self.items ≡ l.found.items ++ k ∷ [] = grind arith in (
      n - 1,
      omega (arith, l.invariant.1, size),
      λ depth. l.invariant.2 depth
          ∙ ap (parse_map (numbers_before l.found.items)) (item_read (value depth) n l.reader ts (number_data k) (omega (arith, l.invariant.1, size)) going.0 (rw next (number_read depth s k ts c.in_ok-whole_number.ensures)))
          ∙ one_more_number l.found.items k _ ∙ ap (λ (ns : List ℕ). parse_map (numbers_before ns) (converted of_items (items (value depth) (n - 1) ts))) (sym pushed),
      omega (arith, l.invariant.3, size),
    )

pub returns-clause-list : goal.returns-clause-list
returns-clause-list c = λ depth.
    let l = c.items in
    let r = c.take_end_array.new.self in
    let over : after_end_array l.reader ≡ Some r = grind arith in
    l.invariant.2 depth ∙ ap (parse_map (numbers_before l.found.items)) (items_over (value depth) l.invariant.0 l.reader r l.invariant.1 over)
    ∙ ap (λ ds. Some (ds, r)) (numbers_before-no_items l.found.items)
