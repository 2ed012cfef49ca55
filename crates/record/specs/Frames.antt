-- The frame of a record of any kind, and the verdict on a frame (docs/FRAME.md, docs/FAULTS.md).
use Rattle.std.specs.Prelude.{ℕ, cond, List, Ok, Err, Result, ◌==◌, nat_le, slice_index}
use Rattle.frame.specs.Faults.{unless}
use Rattle.frame.specs.Frames.{front_of, then_by, judged_whole, written, packet}
use Rattle.frame.specs.declared.faults.Fault.{Fault}
use Rattle.frame.specs.declared.faults.Fault.TheVariants.{NoPayload, UnknownType}
use Rattle.frame.specs.declared.packet.Packet.{Packet}
use Rattle.control.specs.Interface.{interface}
use Rattle.control.specs.Transmitter.{transmitter}
use Rattle.actors.specs.Blinds.{blinds}
use Rattle.actors.specs.Security.{security}
use Rattle.sensors.specs.Climate.{climate}
use Rattle.sensors.specs.Rain.{rain}
use Rattle.sensors.specs.Meter.{meter}
use Rattle.record.specs.declared.records.Record.{Record}
use Rattle.record.specs.declared.records.Record.TheVariants.{Interface, Transmitter, Blinds, Security, Climate, Rain, Meter}

abbrev framed : ℕ → Record → List ℕ
framed seq (Interface r) = written interface (packet seq r)
framed seq (Transmitter r) = written transmitter (packet seq r)
framed seq (Blinds r) = written blinds (packet seq r)
framed seq (Security r) = written security (packet seq r)
framed seq (Climate r) = written climate (packet seq r)
framed seq (Rain r) = written rain (packet seq r)
framed seq (Meter r) = written meter (packet seq r)

-- the frame of a packet
abbrev pub frame_of : Packet Record → List ℕ
frame_of p = framed p.seq p.«record»

-- what a whole frame with a payload is read as, by its type
abbrev by_type : ℕ → List ℕ → Result (List ℕ) Fault
by_type number xs =
    cond (number == 0x01) (judged_whole interface xs)
    (cond (number == 0x02) (judged_whole transmitter xs)
    (cond (number == 0x19) (judged_whole blinds xs)
    (cond (number == 0x20) (judged_whole security xs)
    (cond (number == 0x54) (judged_whole climate xs)
    (cond (number == 0x55) (judged_whole rain xs)
    (cond (number == 0x71) (judged_whole meter xs)
    (Err UnknownType)))))))

abbrev pub verdict_whole : List ℕ → Result (List ℕ) Fault
verdict_whole xs = unless (nat_le 4 (slice_index xs 0)) NoPayload (by_type (slice_index xs 1) xs)

-- what the frame at the front of some bytes is read as: the packet of these very bytes, or the first fault
abbrev pub verdict_of : List ℕ → Result (List ℕ) Fault
verdict_of xs = then_by (front_of xs) verdict_whole

-- a verdict, with the packet as its frame
abbrev pub told : Result (Packet Record) Fault → Result (List ℕ) Fault
told (Ok p) = Ok (frame_of p)
told (Err f) = Err f
