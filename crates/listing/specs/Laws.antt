-- Laws of the listing, and the worked examples (docs/LISTER.md).
use Rattle.std.specs.Prelude.{◌≡◌, ℕ, cond, List, [], ◌++◌, length, take}
use Rattle.tape.specs.declared.signals.Entry.{Entry}
use Rattle.tape.specs.Reading.{Reads}
use Rattle.listing.specs.declared.listing.Listing.{Listing}
use Rattle.listing.specs.declared.listing.Fed.{Fed}
use Rattle.listing.specs.Lines.{lines, closing_of}
use Rattle.listing.specs.Listing.{tape_of, over_of, Listens, FedOn}

-- `Lists input text`: the text is the listing of the stream: a line to each entry of its tape, and the closing line unless more
-- signals came than are counted
pub record Lists (input text : List ℕ) : Type 0 where
  pub entries : List Entry
  pub front : ℕ
  pub begun : List ℕ
  pub reads : Reads 0 (tape_of input) entries front begun
  pub says : text ≡ lines entries ++ cond (over_of input) [] (closing_of (length (tape_of input)) (length begun))

abbrev pub EachStreamHasOneListing : Type 0
EachStreamHasOneListing =
    ((input : List ℕ) → (text : List ℕ) × Lists input text)
    × ((input a b : List ℕ) → Lists input a → Lists input b → a ≡ b)

-- `Went input text x`: from a new listing on, pieces of any size were fed into buffers of any size, each with what the contract of
-- `feed` says of it; all that was taken is `input`, and all that was written is `text`
pub data Went : List ℕ → List ℕ → Listing → Type 0 where
  begins : {x : Listing} → Listens [] [] x → Went [] [] x
  goes_on : {input text : List ℕ} {x y : Listing} (piece out after : List ℕ) (told : Fed) → Went input text x → ((input' : List ℕ) (es : List Entry) → Listens input' es x → FedOn input' piece es out told after y) → Went (input ++ take told.taken piece) (text ++ take told.written after) y

-- however a stream was cut into pieces, what was written are the lines of its entries
abbrev pub PiecesDoNotMatter : Type 0
PiecesDoNotMatter = (input text : List ℕ) (x : Listing) → Went input text x → (es : List Entry) (q : ℕ) (r : List ℕ) → Reads 0 (tape_of input) es q r → text ≡ lines es
