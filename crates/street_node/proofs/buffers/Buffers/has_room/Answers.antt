use Rattle.std.proofs.Common.{◌≡◌, ◌<◌, ℕ, List, length, map, get_or, sym, ap, ◌∙◌, arith}
use Rattle.std.proofs.lemmas.List.{get_or-map, length-map}
use Rattle.street_node.specs.Prelude.{Buffers}
use Rattle.street_node.proofs.buffers.Buffers.has_room.Goals as goal

pub list_len-requires : goal.list_len-requires
list_len-requires c =
    let seen : map (λ l. l.0) c.self.inside.lists.items ≡ c.args.self.now.lists = ap (λ (b : Buffers). b.lists) c.self.view_is in
    let within : get_or c.args.self.now.lists c.args.lane 0 < length c.args.yard.now.lists = c.requires.lists.within c.args.lane 0 c.requires.lane in
    let long : c.args.lane < length c.self.inside.lists.items = (let h = c.requires.lane in let e = length-map c.self.inside.lists.items (λ l. l.0) in let f : length (map (λ l. l.0) c.self.inside.lists.items) ≡ length c.args.self.now.lists = ap length seen in omega arith) in
    let same : get_or c.args.self.now.lists c.args.lane 0 ≡ (get_or c.self.inside.lists.items c.args.lane c.index.result.now).0 = ap (λ (ns : List ℕ). get_or ns c.args.lane 0) (sym seen) ∙ get_or-map (λ l. l.0) c.self.inside.lists.items c.args.lane c.index.result.now 0 long in
    let here : c.index.result.now.0 ≡ get_or c.args.self.now.lists c.args.lane 0 = ap (λ l. l.0) c.index.ensures ∙ sym same in
    rw here within
