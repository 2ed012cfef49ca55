-- What one call hands out, by its sort.
use Rattle.std.proofs.Common.{◌≡◌, ℕ, ◌+◌, ◌<◌, ◌≤◌, List, [], ◌∷◌, ◌++◌, length, get_or, take, sym, refl, ap, ◌∙◌, subst, append-nil, arith, length-append, length-take-le, get_or-take}
use mathlib.Core.List.{append_cancel_left}
use native.Mathlib.Decide.{dec_lt}
use Rattle.std.proofs.lemmas.Bool.Decides.{nat_tests}
use Rattle.stretch.specs.Tokens.{Part, frame, empty, remnant, bytes_of, first}
use Rattle.stretch.specs.Handed.{Left, Handed}

-- the whole frame f at the front of x, and y behind it
pub record Front (x : Left) (f : List ℕ) (y : Left) : Type 0 where
  pub sized : length f ≡ get_or f 0 0 + 1
  pub cut : x.rest ≡ f ++ y.rest
  pub past : y.place ≡ x.place + length f

-- a call that hands out t, by t's sort
pub data Gives (x : Left) : Part → Left → Type 0 where
  of_frame : {f : List ℕ} {y : Left} → Front x f y → 4 ≤ get_or f 0 0 → Gives x (frame x.place f) y
  of_empty : {f : List ℕ} {y : Left} → Front x f y → get_or f 0 0 < 4 → Gives x (empty x.place f) y
  of_remnant : {y : Left} → 0 < length x.rest → length x.rest ≤ get_or x.rest 0 0 → y.rest ≡ [] → Gives x (remnant x.place x.rest) y

front : {x y : Left} {t : Part} → Handed x (t ∷ []) y → get_or x.rest 0 0 < length x.rest → bytes_of t ≡ take (get_or x.rest 0 0 + 1) x.rest → Front x (take (get_or x.rest 0 0 + 1) x.rest) y
front {x} {y} {t} H h e =
    let s = x.rest in
    let L = get_or s 0 0 in
    let n = length-take-le (L + 1) s (omega arith) in
    let same = append-nil (bytes_of t) ∙ e in
    record {
      sized = n ∙ ap (λ k. k + 1) (sym (get_or-take (L + 1) s 0 0 (omega arith)));
      cut = H.splits ∙ ap (λ l. l ++ y.rest) same;
      past = H.moves ∙ ap (λ l. x.place + length l) same;
    }

pub gives : {x y : Left} {t : Part} → Handed x (t ∷ []) y → Gives x t y
gives {x} {y} {t} H =
    let p = x.place in
    let s = x.rest in
    let L = get_or s 0 0 in
    let f = take (L + 1) s in
    let g = H.gives in
    elim (dec_lt L (length s)) [
      | yes h ↦
          let first_byte : get_or f 0 0 ≡ L = get_or-take (L + 1) s 0 0 (omega arith) in
          elim (dec_lt L 4) [
            | yes l ↦
                let is : t ≡ empty p f = grind (arith, nat_tests) in
                subst (λ u. Gives x u y) (sym is) (of_empty (front H h (ap bytes_of is)) (omega arith))
            | no l ↦
                let is : t ≡ frame p f = grind (arith, nat_tests) in
                subst (λ u. Gives x u y) (sym is) (of_frame (front H h (ap bytes_of is)) (omega arith))
          ]
      | no h ↦
          let some : 0 < length s = grind (arith, nat_tests) in
          let is : t ≡ remnant p s = grind (arith, nat_tests) in
          let all : s ++ [] ≡ s ++ y.rest = append-nil s ∙ H.splits ∙ ap (λ l. l ++ y.rest) (append-nil (bytes_of t) ∙ ap bytes_of is) in
          subst (λ u. Gives x u y) (sym is) (of_remnant some (omega arith) (sym (append_cancel_left s [] y.rest all)))
    ]

-- a call that hands out none
pub gives_none : (p : ℕ) (s : List ℕ) → [] ≡ first p s → s ≡ []
gives_none p [] e = refl
gives_none p (L ∷ bs) e = let z : ◌≡◌ {A = ℕ} 0 1 = grind (arith, nat_tests) in absurd (omega arith)

fewer : {x y : Left} {t : Part} → Gives x t y → length y.rest < length x.rest
fewer {x} {y} (of_frame {f = f} F h) = omega (arith, F.sized, ap length F.cut, length-append f y.rest)
fewer {x} {y} (of_empty {f = f} F h) = omega (arith, F.sized, ap length F.cut, length-append f y.rest)
fewer {x} {y} (of_remnant some few e) = omega (arith, ap length e)

-- a call that hands out a token leaves fewer bytes: the measure of a loop over all tokens
pub shrinks : {x y : Left} {t : Part} → Handed x (t ∷ []) y → length y.rest < length x.rest
shrinks H = fewer (gives H)
