use Rattle.std.proofs.Common.{rules, length, Option, List, ℕ, sym, subst}
use Rattle.std.proofs.KnownBytes.{Appends-kept}
use Rattle.std.proofs.Math.Seq.{take-length}
use Rattle.street_stream.specs.Logs.{Extends}
use Rattle.street_stream.proofs.Logs.{extends_more, extends_none, stayed_part}
use Rattle.street_stream.proofs.log.keep.Goals as goal

pub returns-in-Err-clause-synced : goal.returns-in-Err-clause-synced
returns-in-Err-clause-synced g c =
    let held = g.L.WriteAheadLog.held c.args.log.now in
    let stays : Extends held (g.L.WriteAheadLog.synced c.append_all.new.log) = subst (λ (o : Option (List ℕ)). Extends o (g.L.WriteAheadLog.synced c.append_all.new.log)) c.requires.synced c.append_all.ensures.synced in
    let within = c.append_all.ensures.within (subst (λ (o : Option (List ℕ)). Extends o held) (sym c.requires.synced) (extends_none held)) in
    rw c.requires.synced (stayed_part held (g.L.WriteAheadLog.held c.append_all.new.log) (g.L.WriteAheadLog.synced c.append_all.new.log) c.args.entries.now c.in-Err.sent c.in-Err.ensures.part.1 stays within)

pub returns-then-is_err-clause-synced : goal.returns-then-is_err-clause-synced
returns-then-is_err-clause-synced g c =
    let held = g.L.WriteAheadLog.held c.args.log.now in
    let synced = extends_more _ _ _ c.append_all.ensures.synced c.sync.ensures.synced in
    let stays : Extends held (g.L.WriteAheadLog.synced c.sync.new.self) = subst (λ (o : Option (List ℕ)). Extends o (g.L.WriteAheadLog.synced c.sync.new.self)) c.requires.synced synced in
    rw c.requires.synced (stayed_part held (g.L.WriteAheadLog.held c.sync.new.self) (g.L.WriteAheadLog.synced c.sync.new.self) c.args.entries.now (length c.args.entries.now)
    (rw (take-length c.args.entries.now) (Appends-kept _ _ _ c.args.entries.now c.in-Ok.ensures.written c.sync.ensures.bytes)) stays c.sync.ensures.within)

pub returns-clause-kept : goal.returns-clause-kept
returns-clause-kept g c =
    let whole = c.sync.ensures.whole (λ failed. c.requires.sound (c.in-Ok.ensures.sound failed)) in
    search rules
