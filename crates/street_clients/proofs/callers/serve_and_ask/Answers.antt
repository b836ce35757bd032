use Rattle.std.proofs.Common.{◌≡◌, ◌++◌, rules}
use Rattle.street_stream.specs.Lines.{lines_of}
use Rattle.street_clients.proofs.Told.{goes_both}
use Rattle.street_clients.proofs.callers.serve_and_ask.Goals as goal

pub returns-clause-served : goal.returns-clause-served
returns-clause-served g c =
    let asked = lines_of c.as_str.result.now in
    let whole : c.extend_from_slice.new.self.items ≡ c.in_ok-replies.replies.items ++ c.in_ok-last.last.items = search rules in
    (asked, rw whole (goes_both c.args.session.now (lines_of c.args.lines.now) c.in_ok-replies.replies.items c.serve_lines.new.session asked c.in_ok-last.last.items c.serve_lines-2.new.session c.in_ok-replies.ensures.served c.in_ok-last.ensures.served))
