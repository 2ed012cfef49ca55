-- Text that grows in a buffer.
use Rattle.std.proofs.Common.{◌≡◌, ℕ, ◌+◌, ◌*◌, ◌-◌, ◌/◌, ◌%◌, ◌<◌, ◌≤◌, List, [], ◌∷◌, ◌++◌, length, get_or, take, drop, sym, refl, ap, ◌∙◌, subst, append_assoc, arith, length-append, take-append-drop, length-take-le, drop-drop}
use borrow.Rule.Slice.PartMut.{put_mid}
use Rattle.std.proofs.lemmas.List.{take_more, drop-append-le}
use Rattle.std.proofs.lemmas.Slice.{take-put_mid, drop-put_mid}
use Rattle.listing.specs.Text.{hex, hex_digit, Grown}

-- one piece
pub grown_once : (out more part : List ℕ) (at : ℕ) → at + length more ≤ length out → part ≡ more → Grown out at more (put_mid at (at + length more - at) out part) (at + length more)
grown_once out more part at h e =
    let long : length part ≡ length more = ap length e in
    record {
      ends = refl;
      text = take-put_mid at (at + length more - at) out part (at + length more) (omega (arith, long)) (omega arith) ∙ ap (λ l. take at out ++ l) e;
      rest = drop-put_mid at (at + length more - at) out part (at + length more) (omega arith) (omega arith) (omega (arith, long));
    }

later : (k m : ℕ) (xs ys : List ℕ) → k ≤ m → drop k xs ≡ drop k ys → drop m xs ≡ drop m ys
later k m xs ys h e =
    let n : k + (m - k) ≡ m = omega arith in
    ap (λ j. drop j xs) (sym n) ∙ sym (drop-drop (m - k) k xs) ∙ ap (drop (m - k)) e ∙ drop-drop (m - k) k ys ∙ ap (λ j. drop j ys) n

-- one piece behind another
pub grown_more : (out mid after : List ℕ) (at m e : ℕ) (a b : List ℕ) → Grown out at a mid m → Grown mid m b after e → Grown out at (a ++ b) after e
grown_more out mid after at m e a b A B = record {
  ends = omega (arith, A.ends, B.ends, length-append a b);
  text = B.text ∙ ap (λ l. l ++ b) A.text ∙ append_assoc (take at out) a b;
  rest = B.rest ∙ later m e mid out (omega (arith, B.ends)) A.rest;
}

grown_same : (out after : List ℕ) (at e : ℕ) (a b : List ℕ) → a ≡ b → Grown out at a after e → Grown out at b after e
grown_same out after at e a b p G = subst (λ l. Grown out at l after e) p G

-- text that was written from the front on
pub grown_front : (out more after : List ℕ) (at e : ℕ) → at ≡ 0 → Grown out at more after e → after ≡ more ++ drop e out
grown_front out more after at e none G = sym (take-append-drop e after) ∙ (λ i. (G.text ∙ ap (λ k. take k out ++ more) none) i ++ G.rest i)

hex_append : (xs ys : List ℕ) → hex (xs ++ ys) ≡ hex xs ++ hex ys
hex_append [] ys = refl
hex_append (x ∷ xs) ys = ap (λ l. hex_digit (x / 16) ∷ hex_digit (x % 16) ∷ l) (hex_append xs ys)

pub hex_long : (xs : List ℕ) → length (hex xs) ≡ 2 * length xs
hex_long [] = refl
hex_long (x ∷ xs) = omega (arith, hex_long xs)

-- one byte more in hexadecimal
pub hex_more : (i : ℕ) (more : List ℕ) → i < length more → hex (take i more) ++ hex (get_or more i 0 ∷ []) ≡ hex (take (i + 1) more)
hex_more i more lt = sym (hex_append (take i more) (get_or more i 0 ∷ [])) ∙ ap hex (sym (take_more more i 0 lt))

-- what lies behind a place of the first bytes of a buffer
pub front_rest : (n k : ℕ) (out front : List ℕ) → k ≤ length out → front ≡ take k out → n ≤ k → drop n front ++ drop k out ≡ drop n out
front_rest n k out front room e h =
    ap (λ l. drop n l ++ drop k out) e ∙ sym (drop-append-le n (take k out) (drop k out) (omega (arith, length-take-le k out room))) ∙ ap (drop n) (take-append-drop k out)
