-- What a log holds goes on.
use Rattle.std.proofs.Common.{◌≡◌, ◌∙◌, ◌≤◌, ℕ, List, [], ◌++◌, Option, Some, None, take, length, sym, ap, arith, append_assoc}
use Rattle.std.proofs.Math.Seq.{take-append_seam}
use Rattle.std.proofs.lemmas.List.{append_cancel_left, length-append, length-take, take-take}
use Rattle.std.specs.Io.KnownBytes.{Appends}
use Rattle.std.proofs.KnownBytes.{Appends-nil, Appends-trans}
use Rattle.street_stream.specs.Logs.{Extends}

pub extends_none : (a : Option (List ℕ)) → Extends a a
extends_none a = ([], Appends-nil a)

pub extends_more : (a b c : Option (List ℕ)) → Extends a b → Extends b c → Extends a c
extends_more a b c (front, h) (more, k) = (front ++ more, Appends-trans a b c front more h k)

-- what stays of the first bytes is the first of them
pub stayed_part : (old held synced : Option (List ℕ)) (entries : List ℕ) (sent : ℕ) → Appends old held (take sent entries) → Extends old synced → Extends synced held
    → (stayed : ℕ) × (stayed ≤ sent) × Appends old synced (take stayed entries)
stayed_part None held synced entries sent h g k = (0, omega arith, tt)
stayed_part (Some xs) None (Some ys) entries sent h g k = absurd h
stayed_part (Some xs) held None entries sent h g k = absurd g.1
stayed_part (Some xs) (Some hs) (Some ys) entries sent h g k =
    let parts : take sent entries ≡ g.0 ++ k.0 = append_cancel_left xs (take sent entries) (g.0 ++ k.0) (sym h ∙ k.1 ∙ ap (λ (b : List ℕ). b ++ k.0) g.1 ∙ append_assoc xs g.0 k.0) in
    let first : take (length g.0) (take sent entries) ≡ g.0 = ap (λ (b : List ℕ). take (length g.0) b) parts ∙ take-append_seam g.0 k.0 in
    let within : length g.0 ≤ sent = omega (arith, ap length parts, length-append g.0 k.0, length-take sent entries) in
    (length g.0, within, g.1 ∙ ap (λ (b : List ℕ). xs ++ b) (sym first ∙ take-take (length g.0) sent entries within))
