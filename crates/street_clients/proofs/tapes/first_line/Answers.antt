use Rattle.std.proofs.Common.{◌≡◌, ◌+◌, ◌-◌, length, take, drop, arith, add-one}
use Rattle.std.proofs.lemmas.List.{take_all, length-drop}
use Rattle.street_clients.proofs.Lines.{cut_plain, cut_first}
use Rattle.street_clients.proofs.tapes.first_line.Goals as goal

pub returns-in_err-end : goal.returns-in_err-end
returns-in_err-end c = rw c.from_residual.ensures (cut_plain c.args.text.now c.in_err-end.ensures)

pub returns : goal.returns
returns c =
    let text = c.args.text.now in
    let end = c.in_ok-end.end in
    let found = c.in_ok-end.ensures in
    let rest : take (length text - (end + 1)) (drop (end + 1) text) ≡ drop (end + 1) text = take_all _ (drop (end + 1) text) (omega (arith, length-drop (end + 1) text)) in
    (rw rest (rw add-one (cut_first text end found.0 found.1 found.2)), rw rest (omega (arith, length-drop (end + 1) text, found.0)))
