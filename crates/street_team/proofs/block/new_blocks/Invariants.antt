use Rattle.std.proofs.Common.{◌≡◌, ◌≤◌, length, vec_len, vec_capacity}
use Rattle.street_team.proofs.block.new_blocks.Given as goal

abbrev pub invariant-loop-number : goal.invariant-loop-number
invariant-loop-number g l = (vec_len l.blocks ≡ l.number) × (length l.rooms ≤ vec_capacity l.blocks)
