-- What the fields of a `Road` stand for.
use Rattle.std.specs.Prelude.{◌≡◌, ◌∷◌, ◌<◌, length, option_map, option_to_list}
use Rattle.street_base.specs.Prelude.{link_at}
use Rattle.street_rule.specs.declared.road.Road.TheInside.{Inside}
use Rattle.street_rule.specs.Road.{Road, lane_seen}

-- the road, as contracts see it, that the fields stand for: its network, its link's position, and its one or two lanes,
-- each with its list and closed stretches
abbrev pub seen : Inside → Road
seen r = record {
  network = r.network.now;
  link = r.link;
  lanes = lane_seen r.first ∷ option_to_list (option_map lane_seen r.second);
}

-- that a road's fields fit its network: the link is one of the network's, and the length and limit that are kept are
-- that link's
pub record IsSound (r : Inside) : Type 0 where
  pub within : r.link < length r.network.now.links
  pub length : r.length ≡ (link_at r.network.now r.link).length
  pub limit : r.limit ≡ (link_at r.network.now r.link).limit
