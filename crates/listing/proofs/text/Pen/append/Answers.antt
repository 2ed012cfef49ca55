use Rattle.std.proofs.Common.{refl, rules}
use Rattle.listing.proofs.Texts.{grown_once}
use Rattle.listing.proofs.text.Pen.append.Goals as goal

pub returns : goal.returns
returns c = record { same_buffer = refl; grown = grown_once c.args.self.now.out.now c.args.more.now _ c.args.self.now.len (search rules) c.copy_from_slice.ensures.after }
