use Rattle.std.proofs.Common.{◌≡◌, ◌∙◌, ◌≤◌, ◌+◌, ℕ, List, length, take, ap, sym, arith}
use Rattle.std.proofs.lemmas.List.{length-take-le}
use Rattle.street_line.proofs.SoundText.{ends_there, read_up, within_text}
use Rattle.street_line.specs.KeptFiles.{sound_len}
use Rattle.street_line.proofs.kept_file.KeptReaderRead.read.Goals as goal

pub returns-in-Some-clause-bound : goal.returns-in-Some-clause-bound
returns-in-Some-clause-bound g c =
    let ok = c.in-Ok.ensures in
    let buffer = c.read_at.new.buffer in
    let size = c.sound_count-sound.result in
    let less : size ≤ length buffer = omega (arith, c.sound_count-sound.ensures, within_text (take c.in-Ok.count buffer), ok.bound) in
    (less, sym (length-take-le size buffer less))

pub returns-in-Some-clause-bytes : goal.returns-in-Some-clause-bytes
returns-in-Some-clause-bytes g c =
    let ok = c.in-Ok.ensures in
    let buffer = c.read_at.new.buffer in
    let count = c.in-Ok.count in
    let at = c.args.self.now.at in
    let held = g.K.WriteAheadLog.held c.args.self.now.file.now in
    let size = c.sound_count-sound.result in
    let is = c.sound_count-sound.ensures in
    let next : c.in-Some.at ≡ at + sound_len (take count buffer) = c.in-Some.ensures.1 ∙ ap (λ (n : ℕ). at + n) is in
    let less : sound_len (take count buffer) ≤ count = omega (arith, within_text (take count buffer), ok.bound) in
    rw (next, is) (
      read_up at count held buffer less ok.bytes.0,
      λ none room. ends_there at count held buffer ok.bytes.0 none (λ empty. ok.bytes.1 (ok.bound.1 ∙ ap (λ (l : List ℕ). length l) empty) room),
    )
