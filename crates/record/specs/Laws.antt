-- Packets and accepted frames are one to one (docs/FRAME.md).
use Rattle.std.specs.Prelude.{◌≡◌, ℕ, List, Ok}
use Rattle.frame.specs.Fields.{Bytes}
use Rattle.frame.specs.declared.packet.Packet.{Packet}
use Rattle.record.specs.declared.records.Record.{Record}
use Rattle.record.specs.Frames.{frame_of, verdict_of}

abbrev pub EachPacketsFrameIsAccepted : Type 0
EachPacketsFrameIsAccepted = (p : Packet Record) → verdict_of (frame_of p) ≡ Ok (frame_of p)

abbrev pub NoTwoPacketsHaveOneFrame : Type 0
NoTwoPacketsHaveOneFrame = (p q : Packet Record) → frame_of p ≡ frame_of q → p ≡ q

abbrev pub EachAcceptedFrameIsAPackets : Type 0
EachAcceptedFrameIsAPackets = (xs f : List ℕ) → Bytes xs → verdict_of xs ≡ Ok f → (p : Packet Record) × (frame_of p ≡ f)
