use Rattle.std.proofs.Common.{◌≤◌, length, refl, subst, rules}
use Rattle.listing.specs.Steps.{Advances}
use Rattle.listing.proofs.Streams.{byte_advances}
use Rattle.listing.proofs.listing.Listing.advance.Goals as goal

-- nothing changed before the signal numbers were taken
pub returns-in-None-len2-up : goal.returns-in-None-len2-up
returns-in-None-len2-up c =
    let line = c.write_entry-written-in-None-len2-up.ensures in
    let room : 50 ≤ length c.args.room.now = search rules in
    record {
      room = room;
      entry = c.pass-taken.result.entry;
      advances = subst (λ x. Advances x c.args.piece.now c.pass-taken.new.self c.pass-taken.result) (c.in_default.ensures.none refl) c.pass-taken.ensures;
      counts = line.counts;
      holds = line.holds;
      few = line.few;
    }

-- nothing changed before the byte was heard
pub returns-in_default-2 : goal.returns-in_default-2
returns-in_default-2 c =
    let line = c.write_entry-written-in_default-2.ensures in
    let room : 50 ≤ length c.args.room.now = search rules in
    record {
      room = room;
      entry = c.hear-entry.result;
      advances = subst (λ x. Advances x c.args.piece.now c.hear-entry.new.self (record { taken = 1; entry = c.hear-entry.result })) (c.in_default.ensures.none refl)
          (byte_advances c.leap.new.self c.args.piece.now c.hear-entry.result c.hear-entry.new.self c.requires c.hear-entry.ensures);
      counts = line.counts;
      holds = line.holds;
      few = line.few;
    }
