use Rattle.street_team.proofs.team.Team.+lend_to.Given as goal

abbrev pub decreases-lend_to : goal.decreases-lend_to
decreases-lend_to g l = l.threads
