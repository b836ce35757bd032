-- Lists with two entries for each link of a network, one a lane.
use Rattle.std.specs.Prelude.{ℕ, ◌+◌, ◌*◌, List, Bool, false, slice_index_or}
use Rattle.street_base.specs.declared.names.Place.{Place}

-- the position of a lane in a list with two entries for each link: 2 * link + lane
abbrev pub slot_of : Place → ℕ
slot_of p = 2 * p.link + p.lane

-- whether the mouth (cell 0) of a lane is marked as open in a list with two marks for each link; no past the list's end
abbrev pub mouth : List Bool → Place → Bool
mouth mouths p = slice_index_or mouths (slot_of p) false
