-- The kinds of records that are read, by a name of each, so that what holds of every kind is shown once.
use Rattle.std.proofs.Common.{◌≡◌, ℕ, ◌≤◌, cond, eqb, ◌⊎◌, List, get_or, Err, sym, refl, ap, ◌∙◌, inl, inr, arith}
use Rattle.std.proofs.lemmas.Bool.{cases_eq}
use Rattle.std.proofs.lemmas.Bool.Decides.{nat_tests}
use Rattle.frame.specs.Model.{Model, Law}
use Rattle.frame.specs.Frames.{judged_whole, written, packet}
use Rattle.frame.specs.declared.faults.Fault.TheVariants.{UnknownType}
use Rattle.control.specs.Interface.{interface}
use Rattle.control.specs.declared.records.InterfaceMessage.{InterfaceMessage as InterfaceRecord}
use Rattle.control.specs.Transmitter.{transmitter}
use Rattle.control.specs.declared.records.TransmitterMessage.{TransmitterMessage as TransmitterRecord}
use Rattle.actors.specs.Blinds.{blinds}
use Rattle.actors.specs.declared.records.Blinds.{Blinds as BlindsRecord}
use Rattle.actors.specs.Security.{security}
use Rattle.actors.specs.declared.records.Security.{Security as SecurityRecord}
use Rattle.sensors.specs.Climate.{climate}
use Rattle.sensors.specs.declared.records.Climate.{Climate as ClimateRecord}
use Rattle.sensors.specs.Rain.{rain}
use Rattle.sensors.specs.declared.records.Rain.{Rain as RainRecord}
use Rattle.sensors.specs.Meter.{meter}
use Rattle.sensors.specs.declared.records.Meter.{Meter as MeterRecord}
use Rattle.control.specs.Laws.{interface_law, transmitter_law}
use Rattle.actors.specs.Laws.{blinds_law, security_law}
use Rattle.sensors.specs.Laws.{climate_law, rain_law, meter_law}
use Rattle.record.specs.declared.records.Record.{Record}
use Rattle.record.specs.declared.records.Record.TheVariants.{Interface, Transmitter, Blinds, Security, Climate, Rain, Meter}
use Rattle.record.specs.Frames.{frame_of, verdict_whole}

pub data Sort : Type 0 where
  interface_messages : Sort
  transmitter_messages : Sort
  blinds_frames : Sort
  contacts : Sort
  climates : Sort
  rains : Sort
  meters : Sort

abbrev pub Of : Sort → Type 0
Of interface_messages = InterfaceRecord
Of transmitter_messages = TransmitterRecord
Of blinds_frames = BlindsRecord
Of contacts = SecurityRecord
Of climates = ClimateRecord
Of rains = RainRecord
Of meters = MeterRecord

abbrev pub model : (k : Sort) → Model (Of k)
model interface_messages = interface
model transmitter_messages = transmitter
model blinds_frames = blinds
model contacts = security
model climates = climate
model rains = rain
model meters = meter

pub law : (k : Sort) → Law (model k)
law interface_messages = interface_law
law transmitter_messages = transmitter_law
law blinds_frames = blinds_law
law contacts = security_law
law climates = climate_law
law rains = rain_law
law meters = meter_law

abbrev pub inject : (k : Sort) → Of k → Record
inject interface_messages r = Interface r
inject transmitter_messages r = Transmitter r
inject blinds_frames r = Blinds r
inject contacts r = Security r
inject climates r = Climate r
inject rains r = Rain r
inject meters r = Meter r

abbrev pub sort_of : Record → Sort
sort_of (Interface r) = interface_messages
sort_of (Transmitter r) = transmitter_messages
sort_of (Blinds r) = blinds_frames
sort_of (Security r) = contacts
sort_of (Climate r) = climates
sort_of (Rain r) = rains
sort_of (Meter r) = meters

abbrev pub body : (a : Record) → Of (sort_of a)
body (Interface r) = r
body (Transmitter r) = r
body (Blinds r) = r
body (Security r) = r
body (Climate r) = r
body (Rain r) = r
body (Meter r) = r

pub put_together : (a : Record) → inject (sort_of a) (body a) ≡ a
put_together (Interface r) = refl
put_together (Transmitter r) = refl
put_together (Blinds r) = refl
put_together (Security r) = refl
put_together (Climate r) = refl
put_together (Rain r) = refl
put_together (Meter r) = refl

pub injected : (k : Sort) (s : ℕ) (r : Of k) → frame_of (packet s (inject k r)) ≡ written (model k) (packet s r)
injected interface_messages s r = refl
injected transmitter_messages s r = refl
injected blinds_frames s r = refl
injected contacts s r = refl
injected climates s r = refl
injected rains s r = refl
injected meters s r = refl

pub frame_is : (s : ℕ) (a : Record) → frame_of (packet s a) ≡ written (model (sort_of a)) (packet s (body a))
frame_is s a = ap (λ b. frame_of (packet s b)) (sym (put_together a)) ∙ injected (sort_of a) s (body a)

-- the kind of a type number
abbrev pub named : ℕ → Sort
named n =
    cond (eqb n 0x01) interface_messages
    (cond (eqb n 0x02) transmitter_messages
    (cond (eqb n 0x19) blinds_frames
    (cond (eqb n 0x20) contacts
    (cond (eqb n 0x54) climates
    (cond (eqb n 0x55) rains
    meters)))))

pub named_is : (k : Sort) → named (model k).number ≡ k
named_is interface_messages = refl
named_is transmitter_messages = refl
named_is blinds_frames = refl
named_is contacts = refl
named_is climates = refl
named_is rains = refl
named_is meters = refl

-- a frame of a kind's type has that kind's verdict
pub verdict_is : (k : Sort) (xs : List ℕ) → 4 ≤ get_or xs 0 0 → get_or xs 1 0 ≡ (model k).number → verdict_whole xs ≡ judged_whole (model k) xs
verdict_is interface_messages xs h e = grind (arith, nat_tests)
verdict_is transmitter_messages xs h e = grind (arith, nat_tests)
verdict_is blinds_frames xs h e = grind (arith, nat_tests)
verdict_is contacts xs h e = grind (arith, nat_tests)
verdict_is climates xs h e = grind (arith, nat_tests)
verdict_is rains xs h e = grind (arith, nat_tests)
verdict_is meters xs h e = grind (arith, nat_tests)

-- a type is that of a kind, or unknown
pub typed : (xs : List ℕ) → 4 ≤ get_or xs 0 0 → ((k : Sort) × (get_or xs 1 0 ≡ (model k).number)) ⊎ (verdict_whole xs ≡ Err UnknownType)
typed xs h =
    let n = get_or xs 1 0 in
    elim (cases_eq n (model (named n)).number) [
      | inl e ↦ inl (named n, e)
      | inr a ↦
          let no = λ (k : Sort) (e : n ≡ (model k).number). a (e ∙ sym (ap (λ m. (model (named m)).number) e ∙ ap (λ m. (model m).number) (named_is k))) in
          inr (grind (arith, nat_tests, no interface_messages, no transmitter_messages, no blinds_frames, no contacts, no climates, no rains, no meters))
    ]
