use Rattle.replay.proofs.One.{house_lawful, house_one, house_onto, frame_comes_back}
use Rattle.replay.proofs.laws.house_records_are_packets.Goals as goal

pub returns : goal.returns
returns c = record { lawful = house_lawful; one = house_one; onto = house_onto; back = frame_comes_back }
