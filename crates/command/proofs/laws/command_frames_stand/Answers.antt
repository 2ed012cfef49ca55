use Rattle.command.proofs.One as commands
use Rattle.command.proofs.laws.command_frames_stand.Goals as goal

pub returns : goal.returns
returns c = record { passes = commands.frame_passes; one = commands.frame_one }
