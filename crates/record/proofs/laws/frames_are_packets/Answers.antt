use Rattle.record.proofs.One as packets
use Rattle.record.proofs.laws.frames_are_packets.Goals as goal

pub returns : goal.returns
returns c = record { accepted = packets.accepted; one = packets.one; onto = packets.onto }
