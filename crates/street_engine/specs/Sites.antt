-- Which detector of the machine is which of its lane's.
use Rattle.std.specs.Prelude.{◌≡◌, ◌<◌, ◌≤◌, ℕ, List, length, slice_get, slice_index_or}
use Rattle.street_base.specs.declared.net.NetSpec.{NetSpec}
use Rattle.street_base.specs.Prelude.{most_detectors, Detector}
use Rattle.street_lanes.specs.Prelude.{IsLane}
use Rattle.street_tile.specs.Prelude.{detectors_on}
use Rattle.street_engine.specs.declared.sites.DetectorSite.{DetectorSite}

-- that site s names detector i of the list: s is at a lane of the network, and detector i is the detector with number
-- `s.number`, from 0, among those of the list on this lane; or neither is there
pub record IsDetectorSite (net : NetSpec) (ds : List Detector) (i : ℕ) (s : DetectorSite) : Type 0 where
  pub lane : IsLane net s.at
  pub there : slice_get (detectors_on s.at ds) s.number ≡ slice_get ds i

-- that there is a site for each detector, at the same position, with its lane and its number among the detectors of
-- that lane (`IsDetectorSite`), and there are no more detectors than may stand
pub record AreDetectorSites (net : NetSpec) (sites : List DetectorSite) (ds : List Detector) : Type 0 where
  pub even : length sites ≡ length ds
  pub few : length ds ≤ most_detectors
  pub each : (i : ℕ) (d : DetectorSite) → i < length sites → IsDetectorSite net ds i (slice_index_or sites i d)
