use Rattle.std.proofs.Common.{◌≡◌, ℕ, ◌<◌, length, get_or}
use Rattle.street_net.specs.declared.briefs.Brief.{Brief}
use Rattle.street_net.specs.Prelude.{IsBrief}
use Rattle.street_net.proofs.briefs.briefs_of_links.Given as goal

abbrev pub invariant-loop-link : goal.invariant-loop-link
invariant-loop-link l = record {
  one_each : length l.briefs.items ≡ l.link-index;
  told : (k : ℕ) (d : Brief) → k < l.link-index → IsBrief l.spec k (get_or l.briefs.items k d);
}
