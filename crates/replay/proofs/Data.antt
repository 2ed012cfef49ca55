-- The data of a frame that a kind's own fields are put back into. The fields are lawful where these data pass.
use Rattle.std.proofs.Common.{◌≡◌, ℕ, ◌+◌, ◌*◌, ◌/◌, ◌%◌, Bool, true, ◌&&◌, ◌==◌, nat_le, List, [], ◌∷◌, length, is_ok, arith}
use Rattle.std.proofs.lemmas.Bool.Decides.{nat_tests}
use Rattle.frame.specs.Fields.{Bytes, at8, at16}
use Rattle.frame.specs.Model.{checked}
use Rattle.record.proofs.Sorts.{Sort, interface_messages, transmitter_messages, blinds_frames, contacts, climates, rains, meters, model}
use Rattle.replay.specs.Back.{sign_and_size, lawful_by}

abbrev pub data_of : Sort → List ℕ → List ℕ
data_of interface_messages ys = ys
data_of transmitter_messages ys = ys
data_of blinds_frames ys = at8 ys 1 ∷ at8 ys 2 ∷ at8 ys 3 ∷ at8 ys 4 ∷ at8 ys 5 ∷ (at8 ys 7 * 16 + at8 ys 6) ∷ []
data_of contacts ys = at8 ys 1 ∷ at8 ys 2 ∷ at8 ys 3 ∷ at8 ys 4 ∷ (at8 ys 6 * 16 + at8 ys 5) ∷ []
data_of climates ys =
    let t = sign_and_size (at16 ys 4) in
    at8 ys 2 ∷ at8 ys 3 ∷ t / 256 % 256 ∷ t % 256 ∷ at8 ys 6 ∷ at8 ys 7 ∷ at8 ys 8 ∷ at8 ys 9 ∷ at8 ys 10 ∷ (at8 ys 12 * 16 + at8 ys 11) ∷ []
data_of rains ys = at8 ys 2 ∷ at8 ys 3 ∷ at8 ys 4 ∷ at8 ys 5 ∷ at8 ys 6 ∷ at8 ys 7 ∷ at8 ys 8 ∷ (at8 ys 10 * 16 + at8 ys 9) ∷ []
data_of meters ys = at8 ys 2 ∷ at8 ys 3 ∷ at8 ys 4 ∷ at8 ys 5 ∷ at8 ys 6 ∷ at8 ys 7 ∷ (at8 ys 8 * 16) ∷ []

-- a frame has a place for these fields: there are as many as the kind has, the high bytes of the ID are 0, and the halves of
-- the tail are not above 15
abbrev pub fits : Sort → List ℕ → Bool
fits interface_messages ys = true
fits transmitter_messages ys = true
fits blinds_frames ys = length ys == 8 && at8 ys 0 == 0 && nat_le (at8 ys 6) 15 && nat_le (at8 ys 7) 15
fits contacts ys = length ys == 7 && at8 ys 0 == 0 && nat_le (at8 ys 5) 15 && nat_le (at8 ys 6) 15
fits climates ys = length ys == 13 && at8 ys 0 == 0 && at8 ys 1 == 0 && nat_le (at8 ys 11) 15 && nat_le (at8 ys 12) 15
fits rains ys = length ys == 11 && at8 ys 0 == 0 && at8 ys 1 == 0 && nat_le (at8 ys 9) 15 && nat_le (at8 ys 10) 15
fits meters ys = length ys == 9 && at8 ys 0 == 0 && at8 ys 1 == 0 && nat_le (at8 ys 8) 15

-- fields that a frame has a place for are lawful where the data made of them pass
abbrev Passes : Sort → Type 0
Passes k = (s : ℕ) (ys : List ℕ) → Bytes ys → fits k ys ≡ true → lawful_by (model k).number s ys ≡ is_ok (checked (model k) s (data_of k ys))

interface_passes : Passes interface_messages
interface_passes s ys t f = grind (arith, nat_tests)

transmitter_passes : Passes transmitter_messages
transmitter_passes s ys t f = grind (arith, nat_tests)

blinds_passes : Passes blinds_frames
blinds_passes s ys t f = grind (arith, nat_tests, t 0, t 1, t 2, t 3, t 4, t 5, t 6, t 7)

security_passes : Passes contacts
security_passes s ys t f = grind (arith, nat_tests, t 0, t 1, t 2, t 3, t 4, t 5, t 6)

climate_passes : Passes climates
climate_passes s ys t f = grind (arith, nat_tests, t 0, t 1, t 2, t 3, t 4, t 5, t 6, t 7, t 8, t 9, t 10, t 11, t 12)

rain_passes : Passes rains
rain_passes s ys t f = grind (arith, nat_tests, t 0, t 1, t 2, t 3, t 4, t 5, t 6, t 7, t 8, t 9, t 10)

meter_passes : Passes meters
meter_passes s ys t f = grind (arith, nat_tests, t 0, t 1, t 2, t 3, t 4, t 5, t 6, t 7, t 8)

pub kind_passes : (k : Sort) → Passes k
kind_passes interface_messages = interface_passes
kind_passes transmitter_messages = transmitter_passes
kind_passes blinds_frames = blinds_passes
kind_passes contacts = security_passes
kind_passes climates = climate_passes
kind_passes rains = rain_passes
kind_passes meters = meter_passes
