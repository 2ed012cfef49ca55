-- The decimal digits of a number, written from the last to the first.
use Rattle.std.proofs.Common.{◌≡◌, ℕ, zero, suc, ◌+◌, ◌-◌, ◌*◌, ◌/◌, ◌%◌, ◌^◌, ◌<◌, ◌≤◌, List, [], ◌∷◌, ◌++◌, length, take, drop, set, decimal, sym, refl, ap, ◌∙◌, subst, append_assoc, append-nil, pow-suc, arith, length-append, length-set, take-add}
use Rattle.std.proofs.lemmas.List.{drop-set, take-set-le, drop-set-lt}
use Rattle.std.proofs.lemmas.Fmt.{decimal_digit, decimal_step, decimal_nonempty}
use Rattle.listing.specs.Text.{Grown, Spelled}

ten_some : (k : ℕ) → 1 ≤ 10 ^ k
ten_some zero = omega arith
ten_some (suc k) = let p : 10 ^ suc k ≡ 10 ^ k * 10 = pow-suc 10 k in omega (arith, p, ten_some k)

-- how many there are
pub digits_are : (k n : ℕ) → 10 ^ k ≤ n → n < 10 ^ (k + 1) → n < 2 ^ 32 → length (decimal n) ≡ k + 1
digits_are zero n l h w = ap length (decimal_digit n (omega arith))
digits_are (suc k) n l h w =
    let p : 10 ^ suc k ≡ 10 ^ k * 10 = pow-suc 10 k in
    let q : 10 ^ (suc k + 1) ≡ 10 ^ (k + 1) * 10 = ap (λ j. 10 ^ j) (suc_one k) ∙ pow-suc 10 (k + 1) in
    let some : 1 ≤ 10 ^ k = ten_some k in
    let ih = digits_are k (n / 10) (omega (arith, p)) (omega (arith, q)) (omega arith) in
    ap length (decimal_step n (omega (arith, p, some)) (omega arith)) ∙ length-append (decimal (n / 10)) (_ ∷ []) ∙ ap (λ j. j + 1) ih ∙ suc_sum k
  where
    suc_one : (k : ℕ) → suc k + 1 ≡ suc (k + 1)
    suc_one k = omega arith

    suc_sum : (k : ℕ) → k + 1 + 1 ≡ suc k + 1
    suc_sum k = omega arith

pub digits_one : (n : ℕ) → n < 10 → length (decimal n) ≡ 1
digits_one n h = ap length (decimal_digit n h)

pub spelled_none : (out : List ℕ) (at n end : ℕ) → end ≡ at + length (decimal n) → end ≤ length out → n < 2 ^ 32 → Spelled out at n end n (end - 1) out
spelled_none out at n end e f w =
    let some = decimal_nonempty n (omega arith) in
    let none : end - (end - 1 + 1) ≡ 0 = omega (arith, some) in
    record {
      whole = sym (append-nil (decimal n)) ∙ ap (λ k. decimal n ++ take k (drop (end - 1 + 1) out)) (sym none);
      left = omega (arith, some);
      ends = e;
      front = refl;
      behind = refl;
      less = omega arith;
      long = refl;
      fits = f;
    }

module _ (out : List ℕ) (at n end rest place : ℕ) (now : List ℕ) (S : Spelled out at n end rest place now) (w : n < 2 ^ 32) where
  -- what stands from `place` on once the digit d is written there
  written : (d : ℕ) → place < end → take (end - place) (drop place (set now place d)) ≡ d ∷ take (end - (place + 1)) (drop (place + 1) now)
  written d h =
      let n1 : end - place ≡ suc (end - (place + 1)) = omega arith in
      ap (take (end - place)) (drop-set now place d (omega (arith, S.long, S.fits))) ∙ ap (λ k. take k (d ∷ drop (place + 1) now)) n1

  pub spelled_room : 10 ≤ rest → at < place
  spelled_room h =
      let step = ap length (decimal_step rest h (omega (arith, S.less))) in
      let some = decimal_nonempty (rest / 10) (omega (arith, S.less)) in
      omega (arith, step, length-append (decimal (rest / 10)) ((48 + rest % 10) ∷ []), some, S.left)

  below_end : place < end
  below_end = omega (arith, ap length S.whole, length-append (decimal rest) (take (end - (place + 1)) (drop (place + 1) now)), S.left, S.ends)

  pub spelled_more : 10 ≤ rest → Spelled out at n end (rest / 10) (place - 1) (set now place (48 + rest % 10))
  spelled_more h =
      let d = 48 + rest % 10 in
      let room = spelled_room h in
      let step = decimal_step rest h (omega (arith, S.less)) in
      let back : place - 1 + 1 ≡ place = omega arith in
      record {
        whole =
            S.whole ∙ ap (λ l. l ++ take (end - (place + 1)) (drop (place + 1) now)) step
            ∙ append_assoc (decimal (rest / 10)) (d ∷ []) _
            ∙ ap (λ l. decimal (rest / 10) ++ l) (sym (written d below_end) ∙ ap (λ k. take (end - k) (drop k (set now place d))) (sym back));
        left = omega (arith, back, S.left, ap length step, length-append (decimal (rest / 10)) (d ∷ []));
        ends = S.ends;
        front = take-set-le at now place d (omega arith) ∙ S.front;
        behind = drop-set-lt end now place d below_end ∙ S.behind;
        less = omega (arith, S.less);
        long = length-set now place d ∙ S.long;
        fits = S.fits;
      }

  pub spelled_all : rest < 10 → Grown out at (decimal n) (set now place (48 + rest)) end
  spelled_all h =
      let d = 48 + rest in
      let one = decimal_digit rest h in
      let here : place ≡ at = omega (arith, S.left, ap length one) in
      let size : at + (end - at) ≡ end = omega (arith, S.ends) in
      let digits : take (end - at) (drop at (set now place d)) ≡ decimal n =
      ap (λ k. take (end - k) (drop k (set now place d))) (sym here) ∙ written d below_end ∙ ap (λ l. l ++ take (end - (place + 1)) (drop (place + 1) now)) (sym one) ∙ sym S.whole in
      record {
        ends = S.ends;
        text = ap (λ k. take k (set now place d)) (sym size) ∙ take-add at (end - at) (set now place d) ∙ (λ i. (take-set-le at now place d (omega arith) ∙ S.front) i ++ digits i);
        rest = drop-set-lt end now place d below_end ∙ S.behind;
      }

  -- two digits at once
  pub spelled_two : (d e : ℕ) (r p : ℕ) → 100 ≤ rest → d ≡ 48 + rest % 10 → e ≡ 48 + rest / 10 % 10 → r ≡ rest / 10 / 10 → p ≡ place - 1 - 1 → ((S' : Spelled out at n end (rest / 10) (place - 1) (set now place (48 + rest % 10))) → Spelled out at n end (rest / 10 / 10) (place - 1 - 1) (set (set now place (48 + rest % 10)) (place - 1) (48 + rest / 10 % 10))) → Spelled out at n end r p (set (set now place d) (place - 1) e)
  spelled_two d e r p h ed ee er ep next =
      let T = next (spelled_more (omega arith)) in
      subst (λ k. Spelled out at n end r k (set (set now place d) (place - 1) e)) (sym ep)
      (subst (λ k. Spelled out at n end k (place - 1 - 1) (set (set now place d) (place - 1) e)) (sym er)
      (subst (λ k. Spelled out at n end (rest / 10 / 10) (place - 1 - 1) (set (set now place d) (place - 1) k)) (sym ee)
      (subst (λ k. Spelled out at n end (rest / 10 / 10) (place - 1 - 1) (set (set now place k) (place - 1) (48 + rest / 10 % 10))) (sym ed) T)))

-- two digits of a number that has three or more
pub spelled_pair : (out : List ℕ) (at n end rest place : ℕ) (now : List ℕ) (d e r p : ℕ) → Spelled out at n end rest place now → n < 2 ^ 32 → 100 ≤ rest → d ≡ 48 + rest % 10 → e ≡ 48 + rest / 10 % 10 → r ≡ rest / 10 / 10 → p ≡ place - 1 - 1 → Spelled out at n end r p (set (set now place d) (place - 1) e)
spelled_pair out at n end rest place now d e r p S w h ed ee er ep =
    spelled_two out at n end rest place now S w d e r p h ed ee er ep (λ S'. spelled_more out at n end (rest / 10) (place - 1) (set now place (48 + rest % 10)) S' w (omega arith))

-- how many places a number of three digits or more leaves
pub pair_room : (rest : ℕ) → 100 ≤ rest → rest < 2 ^ 32 → length (decimal (rest / 100)) + 2 ≡ length (decimal rest)
pair_room rest h w =
    let one = ap length (decimal_step rest (omega arith) (omega arith)) in
    let two = ap length (decimal_step (rest / 10) (omega arith) (omega arith)) in
    let same : rest / 10 / 10 ≡ rest / 100 = omega arith in
    omega (arith, one, two, length-append (decimal (rest / 10)) ((48 + rest % 10) ∷ []), length-append (decimal (rest / 10 / 10)) ((48 + rest / 10 % 10) ∷ []), ap (λ k. length (decimal k)) same)

-- the last two digits
pub spelled_last : (out : List ℕ) (at n end rest place : ℕ) (now : List ℕ) (d e : ℕ) → Spelled out at n end rest place now → n < 2 ^ 32 → 10 ≤ rest → rest < 100 → d ≡ 48 + rest % 10 → e ≡ 48 + rest / 10 → Grown out at (decimal n) (set (set now place d) (place - 1) e) end
spelled_last out at n end rest place now d e S w h g ed ee =
    let S' = spelled_more out at n end rest place now S w h in
    let G = spelled_all out at n end (rest / 10) (place - 1) (set now place (48 + rest % 10)) S' w (omega arith) in
    subst (λ k. Grown out at (decimal n) (set (set now place d) (place - 1) k) end) (sym ee)
    (subst (λ k. Grown out at (decimal n) (set (set now place k) (place - 1) (48 + rest / 10)) end) (sym ed) G)

-- the last two digits are those of the remainder by a hundred
pub ones_of : (r : ℕ) → 48 + r % 100 % 10 ≡ 48 + r % 10
ones_of r = omega arith

pub tens_of : (r : ℕ) → 48 + r % 100 / 10 ≡ 48 + r / 10 % 10
tens_of r = omega arith
