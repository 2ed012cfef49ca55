-- Fields of several bytes, the high byte first, and numbers with a sign (docs/PACKETS.md).
use Rattle.std.specs.Prelude.{ℕ, suc, ◌+◌, ◌-◌, ◌*◌, ◌/◌, ◌<◌, Bool, cond, ◌&&◌, List, ℤ, pos, negsuc, neg_ℤ, nat_le, nat_lt, slice_index}

-- every element is a byte
abbrev pub Bytes : List ℕ → Type 0
Bytes xs = (i : ℕ) → slice_index xs i < 256

-- the number of one, two, three or four bytes at i
abbrev pub at8 : List ℕ → ℕ → ℕ
at8 xs i = slice_index xs i

abbrev pub at16 : List ℕ → ℕ → ℕ
at16 xs i = slice_index xs i * 256 + slice_index xs (i + 1)

abbrev pub at24 : List ℕ → ℕ → ℕ
at24 xs i = slice_index xs i * 65536 + slice_index xs (i + 1) * 256 + slice_index xs (i + 2)

abbrev pub at32 : List ℕ → ℕ → ℕ
at32 xs i = slice_index xs i * 16777216 + slice_index xs (i + 1) * 65536 + slice_index xs (i + 2) * 256 + slice_index xs (i + 3)

abbrev pub in_range : ℕ → ℕ → ℕ → Bool
in_range lo x hi = nat_le lo x && nat_le x hi

-- sign and size: the top bit of the high byte is the sign, the other 15 bits the size
abbrev pub signed : ℕ → ℕ → ℤ
signed hi lo = cond (nat_lt hi 128) (pos (hi * 256 + lo)) (neg_ℤ (pos ((hi - 128) * 256 + lo)))

-- the high byte of an integer so written; the low byte is unsigned_abs z % 256
abbrev pub high_byte_of : ℤ → ℕ
high_byte_of (pos n) = n / 256
high_byte_of (negsuc n) = 128 + suc n / 256
