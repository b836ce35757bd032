-- What a handle owns may be used and freed on another thread, as what a box of a session owns.
use mathlib.Core.List.{[]}
use denote.Exit.{Exit, under, hidden, unchanged, leaves}
use denote.RawPtr.{Ptr}
use denote.Struct.Struct.{exits_of}
use denote.Struct.Owning.{shape, fields, to}
use base.Shift.{Keyless}
use denote.Param.Send.{IsSend, AllSend, Quiet, owning_send, struct_send, sendable}
use Rattle.std.specs.Prelude.{Option, Some, None}
use Rattle.std.specs.Global.{Global}
use Rattle.std.proofs.Crossing as heap
use Rattle.std.proofs.alloc.Global.TheSendSync as global
use Rattle.street_c.specs.Held.{held_owns}
use Rattle.street_c.specs.declared.session.Session.{Session}
use Rattle.street_c.specs.contracts.session.Session as session
use Rattle.street_c.proofs.session.Session.TheSendSync.{the_send as session_send}
use Rattle.street_c.specs.contracts.handle.Handle.{the_row, the_type}

quiet : {D X : Type 0} (to : D → X) (e : Exit X) → Quiet e → Quiet (hidden (under to e))
quiet to unchanged q = λ x w. tt
quiet to (leaves L l S s r₀) q = λ d. q (to d)

keyless : (a : Global) (p : Ptr) (held : Option Session) → Keyless (held_owns a p held)
keyless a p (Some s) = ((heap.Box-send session.the_row session_send).owned (record { ptr = p; alloc = a; value = s }) []).1
keyless a p None = tt

pub send : IsSend the_row
send =
    let all : AllSend (fields the_type) = (search sendable, (global.the_field_send, tt)) in
    owning_send the_type all (λ d. keyless d.alloc d.at d.held)
    (λ k. quiet (to the_type) (exits_of k (fields the_type)) ((struct_send (shape the_type) all).leaving k))
