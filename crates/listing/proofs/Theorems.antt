-- The laws of the listing.
use Rattle.std.proofs.Common.{◌≡◌, ℕ, cond, List, [], ◌∷◌, ◌++◌, length, take, drop, Ok, Err, sym, refl, ap, ◌∙◌, lit<}
use Rattle.std.proofs.lemmas.Fmt.{decimal_digit}
use Rattle.std.proofs.lemmas.List.{take_at}
use Rattle.frame.specs.declared.faults.Fault.TheVariants.{NoPayload}
use Rattle.frame.specs.Frames.{packet}
use Rattle.record.specs.declared.records.Record.TheVariants.{Transmitter}
use Rattle.tape.specs.declared.signals.Entry.{Entry}
use Rattle.tape.specs.Reading.Parts.{none, remnant, frame}
use Rattle.tape.specs.Reading.Reads.{last, stretch}
use Rattle.tape.proofs.Theorems.{one_reading}
use Rattle.tape.proofs.Unique.{reads_one}
use Rattle.listing.specs.declared.listing.Listing.{Listing}
use Rattle.listing.specs.Lines.{lines, closing_of}
use Rattle.listing.specs.Listing.{tape_of, over_of, Listens}
use Rattle.listing.specs.Laws.{Lists, EachStreamHasOneListing, Went, PiecesDoNotMatter}
use Rattle.listing.specs.Laws.Went.{begins, goes_on}
use Rattle.listing.specs.Known.{Known}
use Rattle.listing.proofs.Streams.{tape_bytes, lines_append}

lists_some : (input : List ℕ) → (text : List ℕ) × Lists input text
lists_some input =
    let R = one_reading.0 (tape_of input) (tape_bytes input) in
    (_, record { entries = R.entries; front = R.front; begun = R.begun; reads = R.reads; says = refl })

lists_one : (input a b : List ℕ) → Lists input a → Lists input b → a ≡ b
lists_one input a b A B =
    let same = reads_one A.reads B.reads in
    A.says ∙ (λ i. lines (same.entries i) ++ cond (over_of input) [] (closing_of (length (tape_of input)) (length (same.begun i)))) ∙ sym B.says

pub one_listing : EachStreamHasOneListing
one_listing = (lists_some, lists_one)

-- what a listing in progress has written so far
record Written (input text : List ℕ) (x : Listing) : Type 0 where
  entries : List Entry
  listens : Listens input entries x
  says : text ≡ lines entries

written : {input text : List ℕ} {x : Listing} → Went input text x → Written input text x
written (begins L) = record { entries = []; listens = L; says = refl }
written (goes_on {text = text} piece out after told W fed) =
    let B = written W in
    let F = fed _ B.entries B.listens in
    let part : take told.written after ≡ lines F.more = ap (take told.written) F.holds ∙ take_at (lines F.more) (drop told.written out) told.written (sym F.counts) in
    record {
      entries = B.entries ++ F.more;
      listens = F.listens;
      says = (λ i. B.says i ++ part i) ∙ sym (lines_append B.entries F.more);
    }

pub pieces : PiecesDoNotMatter
pieces input text x W es q r R =
    let B = written W in
    B.says ∙ ap lines (reads_one B.listens.follows.reads R).entries

pub known : Known
known = record {
  blinds_is = record { writes = refl; accepts = refl };
  security_is = record { writes = refl; accepts = refl };
  climate_is = record { writes = refl; accepts = refl };
  climate_house = refl;
  rain_is = record { writes = refl; accepts = refl };
  meter_is = record { writes = refl; accepts = refl };
  mode_writes = refl;
  mode_passes = refl;
  mode_unread = refl;
  no_payload = refl;
  no_payload_cause = (refl, refl);
  cut = stretch {bs = 0x09 ∷ 0x19 ∷ []} refl (remnant (lit< tt)) (last {bs = []} refl none);
  cut_cause = (refl, refl);
  listing = record {
    entries = record { place = 0; verdict = Ok (packet 1 (Transmitter record { subtype = 1; message = 0; ok = refl })) } ∷ record { place = 5; verdict = Err NoPayload } ∷ [];
    front = 8;
    begun = [];
    reads = stretch {bs = 0x04 ∷ 0x02 ∷ 0x01 ∷ 0x01 ∷ 0x00 ∷ []} refl (frame (0x02 ∷ 0x01 ∷ 0x01 ∷ 0x00 ∷ []) [] refl refl (record { placed = refl; judged = refl }) none) (last {bs = 0x02 ∷ 0xAA ∷ 0xBB ∷ []} refl (frame (0xAA ∷ 0xBB ∷ []) [] refl refl (record { placed = refl; judged = refl }) none));
    says = simp (decimal_digit 0 (lit< tt), decimal_digit 1 (lit< tt), decimal_digit 5 (lit< tt), decimal_digit 9 (lit< tt));
  };
}
