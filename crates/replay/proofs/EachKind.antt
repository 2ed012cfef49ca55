-- Of each kind, the records and the lawful fields are one to one.
use Rattle.std.proofs.Common.{◌≡◌, ℕ, ◌≤◌, true, List, ◌∷◌, length, drop, nat_abs, sym, refl, ap, ◌∙◌, append-nil, arith, drop-cons}
use Rattle.std.proofs.lemmas.Bool.Decides.{nat_tests}
use Rattle.frame.proofs.Spelled.{spelled}
use Rattle.frame.specs.Frames.{packet}
use Rattle.frame.specs.Fields.{Bytes, at8, at16, at24, at32}
use Rattle.actors.specs.Ranges.{blinds_ok, security_ok}
use Rattle.sensors.specs.Ranges.{climate_ok, rain_ok, meter_ok}
use Rattle.record.proofs.Sorts.{Sort, interface_messages, transmitter_messages, blinds_frames, contacts, climates, rains, meters, Of, model, law, inject}
use Rattle.house.specs.House.{two, complement, fields, behind}
use Rattle.replay.specs.Back.{uncomplement, lawful_by}
use Rattle.replay.proofs.Data.{data_of}
use Rattle.replay.proofs.Numbers.{two_at, three_at, four_at, at_two, at_three, at_four, complement_below, complement_at, at_complement}

-- the bytes of a record's fields behind type, subtype and sequence number
abbrev pub own : (k : Sort) → Of k → List ℕ
own k r = behind (fields (packet 0 (inject k r)))

pub kind_lawful : (k : Sort) (r : Of k) → lawful_by (model k).number ((model k).sub_of r) (own k r) ≡ true
kind_lawful interface_messages r = let ok = r.ok in grind (arith, nat_tests, append-nil r.messages)
kind_lawful transmitter_messages r = r.ok
kind_lawful blinds_frames r =
    let ok = r.ok in
    let id = at_four r.id (grind (arith, nat_tests)) in
    (λ i. blinds_ok r.subtype (id i) r.unit r.command r.strength r.battery) ∙ ok
kind_lawful contacts r =
    let ok = r.ok in
    let id = at_four r.id (grind (arith, nat_tests)) in
    (λ i. security_ok r.subtype (id i) r.status r.strength r.battery) ∙ ok
kind_lawful climates r =
    let ok = r.ok in
    let small : nat_abs r.temperature ≤ 0x7FFF = grind (arith, nat_tests) in
    let id = at_four r.id (grind (arith, nat_tests)) in
    let tenths = ap uncomplement (at_two (complement r.temperature) (complement_below r.temperature small)) ∙ at_complement r.temperature small in
    let hpa = at_two r.pressure (grind (arith, nat_tests)) in
    (λ i. climate_ok r.subtype (id i) (tenths i) r.humidity r.humidity_status (hpa i) r.forecast r.strength r.battery) ∙ ok
kind_lawful rains r =
    let ok = r.ok in
    let id = at_four r.id (grind (arith, nat_tests)) in
    let rate = at_two r.rate (grind (arith, nat_tests)) in
    let total = at_three r.total (grind (arith, nat_tests)) in
    (λ i. rain_ok r.subtype (id i) (rate i) (total i) r.strength r.battery) ∙ ok
kind_lawful meters r =
    let ok = r.ok in
    let id = at_four r.id (grind (arith, nat_tests)) in
    let counter = at_four r.counter (grind (arith, nat_tests)) in
    (λ i. meter_ok r.subtype (id i) (counter i) r.strength) ∙ ok

-- those of a record's fields are its own
pub own_data : (k : Sort) (r : Of k) → data_of k (own k r) ≡ (model k).bytes r
own_data interface_messages r = append-nil (r.command ∷ r.messages)
own_data transmitter_messages r = refl
own_data blinds_frames r = let ok = r.ok in grind (arith, nat_tests)
own_data contacts r = let ok = r.ok in grind (arith, nat_tests)
own_data climates r = let ok = r.ok in grind (arith, nat_tests)
own_data rains r = let ok = r.ok in grind (arith, nat_tests)
own_data meters r = let ok = r.ok in grind (arith, nat_tests)

pub kind_one : (k : Sort) (r s : Of k) → (model k).sub_of r ≡ (model k).sub_of s → own k r ≡ own k s → r ≡ s
kind_one k r s u e = (law k).one r s u (sym (own_data k r) ∙ ap (data_of k) e ∙ own_data k s)

pub kind_onto : (k : Sort) (s : ℕ) (ys : List ℕ) → Bytes ys → lawful_by (model k).number s ys ≡ true → (r : Of k) × ((model k).sub_of r ≡ s) × (own k r ≡ ys)
kind_onto interface_messages s ys b h =
    let n : length ys ≡ 10 = grind (arith, nat_tests) in
    let e : ys ≡ at8 ys 0 ∷ drop 1 ys = drop-cons ys 0 0 (omega arith) in
    (record { subtype = s; command = at8 ys 0; messages = drop 1 ys; ok = grind (arith, nat_tests) }, refl {a = s}, append-nil _ ∙ sym e)
kind_onto transmitter_messages s ys b h =
    let e = spelled 1 0 ys (grind (arith, nat_tests)) in
    (record { subtype = s; message = at8 ys 0; ok = grind (arith, nat_tests) }, refl {a = s}, sym e)
kind_onto blinds_frames s ys b h =
    let e = spelled 8 0 ys (grind (arith, nat_tests)) in
    let i = four_at (at8 ys 0) (at8 ys 1) (at8 ys 2) (at8 ys 3) (b 0) (b 1) (b 2) (b 3) in
    (record { subtype = s; id = at32 ys 0; unit = at8 ys 4; command = at8 ys 5; battery = at8 ys 6; strength = at8 ys 7; ok = grind (arith, nat_tests) }, refl {a = s}, cc)
kind_onto contacts s ys b h =
    let e = spelled 7 0 ys (grind (arith, nat_tests)) in
    let i = four_at (at8 ys 0) (at8 ys 1) (at8 ys 2) (at8 ys 3) (b 0) (b 1) (b 2) (b 3) in
    (record { subtype = s; id = at32 ys 0; status = at8 ys 4; battery = at8 ys 5; strength = at8 ys 6; ok = grind (arith, nat_tests) }, refl {a = s}, cc)
kind_onto climates s ys b h =
    let e = spelled 13 0 ys (grind (arith, nat_tests)) in
    let i = four_at (at8 ys 0) (at8 ys 1) (at8 ys 2) (at8 ys 3) (b 0) (b 1) (b 2) (b 3) in
    let t = ap two (complement_at (at16 ys 4) (omega (arith, b 4, b 5))) ∙ two_at (at8 ys 4) (at8 ys 5) (b 4) (b 5) in
    let p = two_at (at8 ys 8) (at8 ys 9) (b 8) (b 9) in
    (record { subtype = s; id = at32 ys 0; temperature = uncomplement (at16 ys 4); humidity = at8 ys 6; humidity_status = at8 ys 7; pressure = at16 ys 8; forecast = at8 ys 10; battery = at8 ys 11; strength = at8 ys 12; ok = grind (arith, nat_tests) }, refl {a = s}, cc)
kind_onto rains s ys b h =
    let e = spelled 11 0 ys (grind (arith, nat_tests)) in
    let i = four_at (at8 ys 0) (at8 ys 1) (at8 ys 2) (at8 ys 3) (b 0) (b 1) (b 2) (b 3) in
    let t = two_at (at8 ys 4) (at8 ys 5) (b 4) (b 5) in
    let p = three_at (at8 ys 6) (at8 ys 7) (at8 ys 8) (b 6) (b 7) (b 8) in
    (record { subtype = s; id = at32 ys 0; rate = at16 ys 4; total = at24 ys 6; battery = at8 ys 9; strength = at8 ys 10; ok = grind (arith, nat_tests) }, refl {a = s}, cc)
kind_onto meters s ys b h =
    let e = spelled 9 0 ys (grind (arith, nat_tests)) in
    let i = four_at (at8 ys 0) (at8 ys 1) (at8 ys 2) (at8 ys 3) (b 0) (b 1) (b 2) (b 3) in
    let t = four_at (at8 ys 4) (at8 ys 5) (at8 ys 6) (at8 ys 7) (b 4) (b 5) (b 6) (b 7) in
    (record { subtype = s; id = at32 ys 0; counter = at32 ys 4; strength = at8 ys 8; ok = grind (arith, nat_tests) }, refl {a = s}, cc)
