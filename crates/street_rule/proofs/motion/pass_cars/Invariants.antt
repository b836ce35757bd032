use Rattle.std.proofs.Common.{◌≡◌, ℕ, map, Option, option_map}
use Rattle.street_base.specs.Prelude.{Drive}
use Rattle.street_gap.specs.Prelude.{closed_marks}
use Rattle.street_yard.specs.Prelude.{cells_at}
use Rattle.street_yard.proofs.YardLemmas.{left}
use Rattle.street_rule.specs.Prelude.{bar_of, drive_with}
use Rattle.street_rule.proofs.WatchLemmas.{watched_from}
use Rattle.street_rule.proofs.Steps.{low_of}
use Rattle.street_rule.proofs.MotionPass.{IsPass}
use Rattle.street_rule.proofs.Turns.{always}
use Rattle.street_rule.proofs.motion.pass_cars.Given as goal

abbrev pub invariant-loop-cursor : goal.invariant-loop-cursor
invariant-loop-cursor l =
    let drive : Drive = drive_with l.course.limit (always l.course.is_open) l.initial.dice l.course.step in
    record {
      ahead : Option ℕ;
      rear : Option ℕ;
      bar : l.bar ≡ bar_of l.course.count l.course.is_open rear;
      pass : IsPass drive (closed_marks l.closures l.course.count) l.initial.yard l.yard l.course.list.0 l.course.count ahead rear l.cursor (option_map (λ o. o.key) l.leaver) (option_map (λ o. o.speed) l.leaver);
      dice : l.dice ≡ l.initial.dice;
      watches : l.watches ≡ map (watched_from drive (cells_at l.initial.yard l.course.list.0 l.course.count) (closed_marks l.closures l.course.count) (low_of ahead l.course.count)) l.initial.watches;
    }

abbrev pub decreases-loop-cursor : goal.decreases-loop-cursor
decreases-loop-cursor l = left l.yard l.course.list.0 l.cursor
