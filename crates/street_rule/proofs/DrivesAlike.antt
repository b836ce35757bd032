-- Motion under two drives that agree. The exit matters to nobody but who has nothing ahead.
use Rattle.std.proofs.Common.{◌≡◌, ℕ, ◌+◌, Bool, false, List, [], length, map, refl, ap, Option, Some, None, option_map, option_and_then, nat_le, ◌==◌, nat_lt, sum_by, if◌then◌else◌}
use Rattle.std.specs.Option.{option_map_or}
use Rattle.std.specs.List.{range_with_len}
use Rattle.std.proofs.Math.Path.{fun_ext}
use Rattle.street_base.specs.Prelude.{Vehicle, with_speed, Cells, vehicle_at, is_covered, obstacle_ahead, Triple, triple, least, Drive, speed_after, driven_on, motion_gap, moved, comes_to, leaves, comer, motion, leaver}
use Rattle.street_rule.specs.declared.watch.Watch.{Watch}
use Rattle.street_rule.specs.Prelude.{watched, motion_gap_to}

-- a triple from what becomes of the vehicle of each cell
abbrev triple_by : (ℕ → Option Vehicle) → Cells → ℕ → Triple
triple_by m after c = record {
  passes = sum_by (λ x. option_map_or (λ v. if nat_lt c (x + v.speed) then 1 else 0) (m x) 0) (range_with_len 0 (c + 1));
  speeds = sum_by (λ x. option_map_or (λ v. if nat_lt c (x + v.speed) then v.speed else 0) (m x) 0) (range_with_len 0 (c + 1));
  occupied = if is_covered after c then 1 else 0;
}

-- two drives with the same limit and dawdlers, and the same exit for whoever has nothing ahead
pub record DrivesAlike (a b : Drive) (cells : Cells) (closed : List Bool) : Type 0 where
  pub limit : a.limit ≡ b.limit
  pub dawdles : (number : ℕ) → a.dawdles number ≡ b.dawdles number
  pub exit : (x : ℕ) (v : Vehicle) → vehicle_at cells x ≡ Some v → obstacle_ahead cells closed x ≡ None → a.is_open_to v ≡ b.is_open_to v

module _ (a b : Drive) (cells : Cells) (closed : List Bool) (alike : DrivesAlike a b cells closed) where
  gap-agrees : (x : ℕ) (v : Vehicle) (ahead : Option ℕ) → vehicle_at cells x ≡ Some v → obstacle_ahead cells closed x ≡ ahead → motion_gap_to ahead x (length cells) (a.is_open_to v) ≡ motion_gap_to ahead x (length cells) (b.is_open_to v)
  gap-agrees x v None there e = ap (motion_gap_to None x (length cells)) (alike.exit x v there e)
  gap-agrees x v (Some y) there e = refl

  moved-at : (x : ℕ) (o : Option Vehicle) → vehicle_at cells x ≡ o → option_map (driven_on a cells closed x) o ≡ option_map (driven_on b cells closed x) o
  unfolding motion_gap
  moved-at x None there = refl
  moved-at x (Some v) there = rw (alike.limit, alike.dawdles v.number) (ap (λ room. Some (with_speed v (speed_after b.limit room (b.dawdles v.number) v.speed))) (gap-agrees x v (obstacle_ahead cells closed x) there refl))

  pub moved-agrees : moved a cells closed ≡ moved b cells closed
  unfolding moved
  moved-agrees = fun_ext (λ x. moved-at x (vehicle_at cells x) refl)

  pub motion-agrees : motion a cells closed ≡ motion b cells closed
  unfolding motion comer comes_to
  motion-agrees = ap (λ (f : ℕ → Option Vehicle). map (λ y. option_and_then f (least (λ x. option_map_or (λ v. x + v.speed == y) (f x) false) 0 (length cells))) (range_with_len 0 (length cells))) moved-agrees

  pub leaver-agrees : leaver a cells closed ≡ leaver b cells closed
  unfolding leaver leaves
  leaver-agrees = ap (λ (f : ℕ → Option Vehicle). option_and_then f (least (λ x. option_map_or (λ v. nat_le (length cells) (x + v.speed)) (f x) false) 0 (length cells))) moved-agrees

  triple-agrees : (after : Cells) (c : ℕ) → triple a cells closed after c ≡ triple b cells closed after c
  unfolding triple
  triple-agrees after c = ap (λ (m : ℕ → Option Vehicle). triple_by m after c) moved-agrees

  pub watched-agrees : (w : Watch) → watched a (record { cells = cells; closed = closed }) w ≡ watched b (record { cells = cells; closed = closed }) w
  watched-agrees w = ap (λ (t : Triple). record w { passes = w.passes + t.passes; speeds = w.speeds + t.speeds }) (triple-agrees [] w.cell)
