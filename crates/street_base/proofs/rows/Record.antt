-- Worked rows: the record of a step, its rows and its bytes.
use Rattle.street_base.proofs.rows.Unfolded.{machine_computed}
use Rattle.std.proofs.Common.{◌≡◌, ℕ, List, [], ◌∷◌, ◌++◌, map, refl, Option, Some, None}
use Rattle.std.specs.Prelude.{option_map}
use Rattle.street_base.specs.declared.net.NetSpec.{NetSpec}
use Rattle.street_base.specs.declared.command.Command.{Command}
use Rattle.street_base.specs.declared.command.Command.TheVariants.{Enter, Advance, CloseLane, TakeOut}
use Rattle.street_base.specs.declared.record.RecordRow.{RecordRow}
use Rattle.street_base.specs.State.{State, Traffic}
use Rattle.street_base.specs.Machine.{refusal, loaded}
use Rattle.street_base.specs.Record.{rows_of_step, block, blocks}
use Rattle.street_base.proofs.rows.States.{link, turn_of, net_of}
use Rattle.street_base.proofs.rows.Served.{served_as}

-- two links of two lanes: 10 of ten cells, and then 20 of eight; a vehicle stays 3 steps at the node between them
abbrev street : NetSpec
street = net_of
    (record { id = 1; residence = 1; capacity = 2 } ∷ record { id = 2; residence = 3; capacity = 2 } ∷ record { id = 3; residence = 1; capacity = 2 } ∷ [])
    (link 10 1 2 2 10 ∷ link 20 2 3 2 8 ∷ [])
    (turn_of 10 0 20 0 ∷ turn_of 10 1 20 1 ∷ [])
    0 0 1000

-- the state after these commands
abbrev after_all : State → List Command → State
after_all m [] = m
after_all m (c ∷ cs) = after_all (served_as m c (refusal m c)).0 cs

-- 0 covers three cells; 5 still waits behind the step; 4 is beside 3 until it is taken out, and the last cell ahead of 3 is closed
abbrev till_clock_4 : State
till_clock_4 = after_all (Some (loaded street)) (
    Enter (10 ∷ []) 0 1 3
    ∷ Enter (10 ∷ 20 ∷ []) 0 4 1
    ∷ Enter (10 ∷ 20 ∷ []) 1 0 1
    ∷ Enter (20 ∷ []) 0 0 1
    ∷ Enter (20 ∷ []) 1 0 1
    ∷ Enter (10 ∷ []) 1 9 1
    ∷ Advance 4
    ∷ CloseLane 20 0 7 7
    ∷ TakeOut 4
    ∷ [])

-- a row as (number, slot, spot, speed)
abbrev told : RecordRow → ℕ × ℕ × ℕ × ℕ
told row = (row.car, row.slot, row.spot, row.speed)

-- 0 drives, 1 has departed behind it; 2 has left lane 1 for the buffer, ready from step 7 on; 3 changed to lane 1 and arrived from there
pub rows_of_step_4 : option_map (λ m. map told (rows_of_step m)) till_clock_4 ≡ Some (
    (0, 0, 6, 3)
    ∷ (1, 0, 0, 0)
    ∷ (2, 1, 2147483655, 4)
    ∷ (3, 3, 4294967295, 4)
    ∷ [])
unfolding machine_computed
rows_of_step_4 = refl

-- 05000000 04000000 01000000 01000000: clock 5, four rows, one arrived, one taken out
abbrev head_5 : List ℕ
head_5 = 5 ∷ 0 ∷ 0 ∷ 0 ∷ 4 ∷ 0 ∷ 0 ∷ 0 ∷ 1 ∷ 0 ∷ 0 ∷ 0 ∷ 1 ∷ 0 ∷ 0 ∷ 0 ∷ []

-- 00000000 00000000 06000000 03000000: 0 in cell 6 of lane 0 of link 10, speed 3
abbrev row_of_0 : List ℕ
row_of_0 = 0 ∷ 0 ∷ 0 ∷ 0 ∷ 0 ∷ 0 ∷ 0 ∷ 0 ∷ 6 ∷ 0 ∷ 0 ∷ 0 ∷ 3 ∷ 0 ∷ 0 ∷ 0 ∷ []

-- 01000000 00000000 00000000 00000000: 1 in cell 0 behind it
abbrev row_of_1 : List ℕ
row_of_1 = 1 ∷ 0 ∷ 0 ∷ 0 ∷ 0 ∷ 0 ∷ 0 ∷ 0 ∷ 0 ∷ 0 ∷ 0 ∷ 0 ∷ 0 ∷ 0 ∷ 0 ∷ 0 ∷ []

-- 02000000 01000000 07000080 04000000: 2 in the buffer of lane 1
abbrev row_of_2 : List ℕ
row_of_2 = 2 ∷ 0 ∷ 0 ∷ 0 ∷ 1 ∷ 0 ∷ 0 ∷ 0 ∷ 7 ∷ 0 ∷ 0 ∷ 128 ∷ 4 ∷ 0 ∷ 0 ∷ 0 ∷ []

-- 03000000 03000000 ffffffff 04000000: 3 arrived from lane 1 of link 20
abbrev row_of_3 : List ℕ
row_of_3 = 3 ∷ 0 ∷ 0 ∷ 0 ∷ 3 ∷ 0 ∷ 0 ∷ 0 ∷ 255 ∷ 255 ∷ 255 ∷ 255 ∷ 4 ∷ 0 ∷ 0 ∷ 0 ∷ []

pub block_of_step_4 : option_map block till_clock_4 ≡ Some (head_5 ++ row_of_0 ++ row_of_1 ++ row_of_2 ++ row_of_3)
unfolding machine_computed block
block_of_step_4 = refl

-- a step later 1 drives on and 0 has arrived, ahead of all that is left in its lane: its row stands behind 1's
pub blocks_of_two_steps : option_map (blocks 2) till_clock_4 ≡ Some (
    head_5 ++ row_of_0 ++ row_of_1 ++ row_of_2 ++ row_of_3
    -- clock 6, three rows, two arrived, one taken out
    ++ 6 ∷ 0 ∷ 0 ∷ 0 ∷ 3 ∷ 0 ∷ 0 ∷ 0 ∷ 2 ∷ 0 ∷ 0 ∷ 0 ∷ 1 ∷ 0 ∷ 0 ∷ 0
    -- 1 in cell 1, speed 1
    ∷ 1 ∷ 0 ∷ 0 ∷ 0 ∷ 0 ∷ 0 ∷ 0 ∷ 0 ∷ 1 ∷ 0 ∷ 0 ∷ 0 ∷ 1 ∷ 0 ∷ 0 ∷ 0
    -- 0 arrived from lane 0 of link 10 with speed 4
    ∷ 0 ∷ 0 ∷ 0 ∷ 0 ∷ 0 ∷ 0 ∷ 0 ∷ 0 ∷ 255 ∷ 255 ∷ 255 ∷ 255 ∷ 4 ∷ 0 ∷ 0 ∷ 0
    -- 2 is still in the buffer
    ∷ 2 ∷ 0 ∷ 0 ∷ 0 ∷ 1 ∷ 0 ∷ 0 ∷ 0 ∷ 7 ∷ 0 ∷ 0 ∷ 128 ∷ 4 ∷ 0 ∷ 0 ∷ 0
    ∷ [])
unfolding machine_computed block
blocks_of_two_steps = refl
