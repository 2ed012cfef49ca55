-- A house record in a buffer of 18 bytes.
use Rattle.std.proofs.Common.{◌≡◌, ℕ, ◌≤◌, List, length, take, drop, Ok, Err, Result, sym, ap, ◌∙◌, arith}
use Rattle.std.proofs.lemmas.List.{take_at}
use Rattle.frame.specs.declared.packet.Packet.{Packet}
use Rattle.record.specs.declared.records.Record.{Record}
use Rattle.refusal.specs.declared.refusals.Refusal.{Refusal}
use Rattle.refusal.specs.Output.{Put}
use Rattle.refusal.proofs.Puts.{put_holds, put_tells}
use Rattle.house.specs.House.{house_of}
use Rattle.house.proofs.Sizes.{house_short}

module _ (p : Packet Record) (before now : List ℕ) (room : length before ≡ 18) where
  fits : length (house_of p) ≤ length before
  fits = omega (arith, house_short p)

  house_size : {r : Result ℕ Refusal} (n : ℕ) → Put (house_of p) before r now → r ≡ Ok n → n ≡ length (house_of p)
  house_size n P e = let t = sym e ∙ put_tells (house_of p) before fits P in cc

  pub house_is : {r : Result ℕ Refusal} (n : ℕ) → Put (house_of p) before r now → r ≡ Ok n → take n now ≡ house_of p
  house_is n P e =
      ap (take n) (put_holds (house_of p) before fits P) ∙ take_at (house_of p) (drop (length (house_of p)) before) n (sym (house_size n P e))

  pub house_never : {r : Result ℕ Refusal} (x : Refusal) → Put (house_of p) before r now → r ≡ Err x → ⊥
  house_never x P e = let t = sym e ∙ put_tells (house_of p) before fits P in let z : ◌≡◌ {A = ℕ} 0 1 = cc in omega arith
