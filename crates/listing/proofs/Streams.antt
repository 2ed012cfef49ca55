-- Streams that grow by a byte, and what a listing of them becomes.
use Rattle.std.proofs.Common.{◌≡◌, ℕ, zero, suc, ◌+◌, ◌-◌, ◌*◌, ◌/◌, ◌<◌, ◌≤◌, true, false, cond, ltb, List, [], ◌∷◌, ◌++◌, length, get_or, take, drop, Some, None, Option, sym, refl, ap, ◌∙◌, subst, append_assoc, append-nil, arith, length-append, length-drop, take-append-drop, length-take, length-take-le, take_all, drop-drop, take-add, take-take, le-ltb, lt-ltb, eq-eqb, ne_eqb}
use Rattle.std.specs.Option.{option_to_list}
use mathlib.Core.List.{append_cancel_left}
use native.Mathlib.Decide.{dec_lt}
use borrow.Rule.Slice.PartMut.{put_mid}
use lib.Seq.{take-append-le, drop-length}
use Rattle.std.proofs.lemmas.List.{length_push, take_more, take_at, drop_at}
use Rattle.tape.specs.declared.signals.Signal.{Signal}
use Rattle.tape.specs.declared.signals.Signal.TheVariants.{Byte, Pause}
use Rattle.tape.specs.declared.signals.Entry.{Entry}
use Rattle.tape.specs.Follow.{Follows, limit, full, heard, model}
use Rattle.tape.specs.Numbers.{signal_of}
use Rattle.tape.specs.Reading.{Reads}
use Rattle.tape.specs.Laws.{OfBytes}
use Rattle.tape.proofs.Theorems.{entries_stay}
use Rattle.tape.proofs.Unique.{reads_one}
use Rattle.listing.proofs.Numbers.{signals_append, odd_append, signals_take}
use Rattle.listing.specs.declared.listing.Listing.{Listing}
use Rattle.listing.specs.declared.listing.Fed.{Fed}
use Rattle.listing.specs.declared.listing.Advance.{Advance}
use Rattle.listing.specs.Lines.{lines, line_of}
use Rattle.listing.specs.Listing.{signals, odd, tape_of, Listens, FedOn, WentOn}
use Rattle.listing.specs.Steps.{Stepped, Hears, Waits, Advances, FedOnce}

-- a byte that ends one
second_signals : (input : List ℕ) (h b : ℕ) → odd input ≡ Some h → signals (input ++ b ∷ []) ≡ signals input ++ signal_of (h * 256 + b) ∷ []
second_signals [] h b e = let z : ◌≡◌ {A = ℕ} 0 1 = cc in absurd (omega arith)
second_signals (x ∷ []) h b e = let k : x ≡ h = cc in ap (λ n. signal_of (n * 256 + b) ∷ []) k
second_signals (x ∷ l ∷ bs) h b e = ap (λ ss. signal_of (x * 256 + l) ∷ ss) (second_signals bs h b e)

second_odd : (input : List ℕ) (h b : ℕ) → odd input ≡ Some h → odd (input ++ b ∷ []) ≡ None
second_odd [] h b e = let z : ◌≡◌ {A = ℕ} 0 1 = cc in absurd (omega arith)
second_odd (x ∷ []) h b e = refl
second_odd (x ∷ l ∷ bs) h b e = second_odd bs h b e

-- the tape takes one more signal, or is full
tape_more : (ss : List Signal) (s : Signal) → take limit (ss ++ s ∷ []) ≡ heard (take limit ss) s
tape_more ss s =
    elim (dec_lt (length ss) limit) [
      | yes h ↦
          let all = take_all limit ss (omega arith) in
          let free : full (take limit ss) ≡ false = ne_eqb (length (take limit ss)) limit (λ e. let l = ap length all in absurd (omega (arith, l, e))) in
          take_all limit (ss ++ s ∷ []) (omega (arith, length_push ss s))
          ∙ ap (λ l. l ++ s ∷ []) (sym all)
          ∙ ap (λ v. cond v (take limit ss) (take limit ss ++ s ∷ [])) (sym free)
      | no h ↦
          let shut : full (take limit ss) ≡ true = eq-eqb (length (take limit ss)) limit (length-take-le limit ss (omega arith)) in
          take-append-le limit ss (s ∷ []) (omega arith)
          ∙ ap (λ v. cond v (take limit ss) (take limit ss ++ s ∷ [])) (sym shut)
    ]

over_more : (ss : List Signal) (s : Signal) → ltb limit (length (ss ++ s ∷ [])) ≡ cond (full (take limit ss)) true (ltb limit (length ss))
over_more ss s =
    elim (dec_lt (length ss) limit) [
      | yes h ↦
          let all = take_all limit ss (omega arith) in
          let free : full (take limit ss) ≡ false = ne_eqb (length (take limit ss)) limit (λ e. let l = ap length all in absurd (omega (arith, l, e))) in
          le-ltb limit (length (ss ++ s ∷ [])) (omega (arith, length_push ss s))
          ∙ sym (le-ltb limit (length ss) (omega arith))
          ∙ ap (λ v. cond v true (ltb limit (length ss))) (sym free)
      | no h ↦
          let shut : full (take limit ss) ≡ true = eq-eqb (length (take limit ss)) limit (length-take-le limit ss (omega arith)) in
          lt-ltb limit (length (ss ++ s ∷ [])) (omega (arith, length_push ss s))
          ∙ ap (λ v. cond v true (ltb limit (length ss))) (sym shut)
    ]

-- the tape of a stream that grew is the tape, and more; and all of it is of bytes
signal_bytes : (n : ℕ) → OfBytes (signal_of n ∷ [])
signal_bytes n =
    elim (dec_lt n 256) [
      | yes h ↦ subst (λ b. OfBytes (cond b (Byte n) Pause ∷ [])) (sym (lt-ltb n 256 h)) (h, tt)
      | no h ↦ subst (λ b. OfBytes (cond b (Byte n) Pause ∷ [])) (sym (le-ltb n 256 (omega arith))) tt
    ]

of_bytes_cons : (s : Signal) (t : List Signal) → OfBytes (s ∷ []) → OfBytes t → OfBytes (s ∷ t)
of_bytes_cons (Byte b) t o p = (o.0, p)
of_bytes_cons Pause t o p = p

stream_bytes : (input : List ℕ) → OfBytes (signals input)
stream_bytes [] = tt
stream_bytes (h ∷ []) = tt
stream_bytes (h ∷ l ∷ bs) = of_bytes_cons (signal_of (h * 256 + l)) (signals bs) (signal_bytes (h * 256 + l)) (stream_bytes bs)

bytes_head : (s : Signal) (t : List Signal) → OfBytes (s ∷ t) → OfBytes (s ∷ [])
bytes_head (Byte b) t o = (o.0, tt)
bytes_head Pause t o = tt

bytes_rest : (s : Signal) (t : List Signal) → OfBytes (s ∷ t) → OfBytes t
bytes_rest (Byte b) t o = o.1
bytes_rest Pause t o = o

bytes_front : (n : ℕ) (t : List Signal) → OfBytes t → OfBytes (take n t)
bytes_front zero t o = tt
bytes_front (suc n) [] o = tt
bytes_front (suc n) (s ∷ t) o = of_bytes_cons s (take n t) (bytes_head s t o) (bytes_front n t (bytes_rest s t o))

bytes_behind : (n : ℕ) (t : List Signal) → OfBytes t → OfBytes (drop n t)
bytes_behind zero t o = o
bytes_behind (suc n) [] o = tt
bytes_behind (suc n) (s ∷ t) o = bytes_behind n t (bytes_rest s t o)

signals_longer : (input more : List ℕ) → (u : List Signal) × (signals (input ++ more) ≡ signals input ++ u)
signals_longer [] more = (signals more, refl)
signals_longer (h ∷ []) [] = ([], refl)
signals_longer (h ∷ []) (l ∷ bs) = (signals (h ∷ l ∷ bs), refl)
signals_longer (h ∷ l ∷ bs) more = let u = signals_longer bs more in (u.0, ap (λ ss. signal_of (h * 256 + l) ∷ ss) u.1)

pub tape_bytes : (input : List ℕ) → OfBytes (tape_of input)
tape_bytes input = bytes_front limit (signals input) (stream_bytes input)

take_front : (m : ℕ) (xs ys : List Signal) → take (length (take m xs)) (take m (xs ++ ys)) ≡ take m xs
take_front zero xs ys = refl
take_front (suc m) [] ys = refl
take_front (suc m) (x ∷ xs) ys = ap (λ l. x ∷ l) (take_front m xs ys)

tape_grows : (input more : List ℕ) → (u : List Signal) × OfBytes u × (tape_of (input ++ more) ≡ tape_of input ++ u)
tape_grows input more =
    let n = length (tape_of input) in
    let whole = tape_of (input ++ more) in
    let u = signals_longer input more in
    let front : take n whole ≡ tape_of input = ap (λ l. take n (take limit l)) u.1 ∙ take_front limit (signals input) u.0 in
    (drop n whole, bytes_behind n whole (tape_bytes (input ++ more)), sym (take-append-drop n whole) ∙ ap (λ l. l ++ drop n whole) front)

-- a listing that follows a tape, by another name of it
renamed : {t u : List Signal} {es fs : List Entry} (x : Listing) → t ≡ u → es ≡ fs → Follows t es (model x.reader) → Follows u fs (model x.reader)
renamed {t} {u} {es} {fs} x e f F = subst (λ l. Follows u l (model x.reader)) f (subst (λ l. Follows l es (model x.reader)) e F)

-- the first byte of a signal number
pub hears_first : (x : Listing) (b : ℕ) → x.high ≡ None → Hears x (b ∷ []) [] (record x { high = Some b })
hears_first x b none input es L =
    let free = sym L.waits ∙ none in
    let same : signals (input ++ b ∷ []) ≡ signals input = signals_append input (b ∷ []) free ∙ append-nil (signals input) in
    record {
      follows = renamed x (ap (take limit) (sym same)) (sym (append-nil es)) L.follows;
      waits = sym (odd_append input (b ∷ []) free);
      over = L.over ∙ ap (λ ss. ltb limit (length ss)) (sym same);
    }

-- bytes that end a signal number: that of s
abbrev pub Ends : Listing → List ℕ → Signal → Type 0
Ends x bytes s = (input : List ℕ) → odd input ≡ x.high → (signals (input ++ bytes) ≡ signals input ++ s ∷ []) × (odd (input ++ bytes) ≡ None)

pub hears_number : (x z : Listing) (bytes : List ℕ) (s : Signal) (r : Option Entry) → Ends x bytes s → ((t : List Signal) (es : List Entry) → Follows t es (model x.reader) → Stepped t es s r (record x { high = None }) z) → Hears x bytes (option_to_list r) z
hears_number x z bytes s r ends step input es L =
    let E = ends input (sym L.waits) in
    let S = step (tape_of input) es L.follows in
    record {
      follows = renamed z (sym (tape_more (signals input) s) ∙ ap (take limit) (sym E.0)) refl S.follows;
      waits = S.waits ∙ sym E.1;
      over = S.over ∙ ap (λ v. cond (full (tape_of input)) true v) L.over ∙ sym (over_more (signals input) s) ∙ ap (λ ss. ltb limit (length ss)) (sym E.0);
    }

pub ends_second : (x : Listing) (h b : ℕ) → x.high ≡ Some h → Ends x (b ∷ []) (signal_of (h * 256 + b))
ends_second x h b some input e = (second_signals input h b (e ∙ some), second_odd input h b (e ∙ some))

ends_pair : (x : Listing) (h l : ℕ) → x.high ≡ None → Ends x (h ∷ l ∷ []) (signal_of (h * 256 + l))
ends_pair x h l none input e = (signals_append input (h ∷ l ∷ []) (e ∙ none), odd_append input (h ∷ l ∷ []) (e ∙ none))

-- no signal, no entry
waits_still : (x : Listing) (bytes : List ℕ) → ((input : List ℕ) → odd input ≡ x.high → (i : ℕ) → i < length bytes → signals (input ++ take i bytes) ≡ signals input) → Waits x bytes
waits_still x bytes still input es L i lt fs q r R =
    let here : tape_of (input ++ take i bytes) ≡ tape_of input = ap (take limit) (still input (sym L.waits) i lt) in
    let same = (reads_one (subst (λ t. Reads 0 t (es ++ fs) q r) here R) L.follows.reads).entries in
    append_cancel_left es fs [] (same ∙ sym (append-nil es))

-- one byte, taken as the front of a piece
pub byte_advances : (x : Listing) (piece : List ℕ) (r : Option Entry) (z : Listing) → 0 < length piece → Hears x (get_or piece 0 0 ∷ []) (option_to_list r) z → Advances x piece z (record { taken = 1; entry = r })
byte_advances x piece r z some hears =
    let first : take 1 piece ≡ get_or piece 0 0 ∷ [] = take_more piece 0 0 some in
    record {
      within = omega (arith, some);
      moves = omega arith;
      hears = subst (λ l. Hears x l (option_to_list r) z) (sym first) hears;
      waits = waits_still x (take 1 piece) (λ input e i h.
          let none : i ≡ 0 = omega (arith, length-take-le 1 piece some) in
          ap (λ k. signals (input ++ take k (take 1 piece))) none ∙ ap signals (append-nil input));
    }

-- a signal number, taken as the front of a piece
pub pair_advances : (x : Listing) (piece : List ℕ) (s : Signal) (r : Option Entry) (z : Listing) → 2 ≤ length piece → x.high ≡ None → s ≡ signal_of (get_or piece 0 0 * 256 + get_or piece 1 0) → ((t : List Signal) (es : List Entry) → Follows t es (model x.reader) → Stepped t es s r x z) → Advances x piece z (record { taken = 2; entry = r })
pair_advances x piece s r z two none s-is step =
    let h = get_or piece 0 0 in
    let l = get_or piece 1 0 in
    let pair : take 2 piece ≡ h ∷ l ∷ [] = take_more piece 1 0 two ∙ (λ i. take_more piece 0 0 (omega arith) i ++ l ∷ []) in
    let taken : (t : List Signal) (es : List Entry) → Follows t es (model x.reader) → Stepped t es s r (record x { high = None }) z =
    λ t es F. let S = step t es F in record { follows = S.follows; waits = S.waits ∙ none; over = S.over } in
    record {
      within = two;
      moves = omega arith;
      hears = subst (λ b. Hears x b (option_to_list r) z) (sym pair) (hears_number x z (h ∷ l ∷ []) s r (subst (Ends x (h ∷ l ∷ [])) (sym s-is) (ends_pair x h l none)) taken);
      waits = waits_still x (take 2 piece) (λ input e i lt.
          let half : i / 2 ≡ 0 = omega (arith, length-take-le 2 piece two) in
          signals_append input (take i (take 2 piece)) (e ∙ none) ∙ ap (λ ss. signals input ++ ss) (signals_take i (take 2 piece) ∙ ap (λ k. take k (signals (take 2 piece))) half) ∙ append-nil (signals input));
    }

-- the first i bytes of a piece complete no entry
pub record Passes (x : Listing) (piece : List ℕ) (i : ℕ) (y : Listing) : Type 0 where
  pub within : i ≤ length piece
  pub hears : Hears x (take i piece) [] y
  pub waits : Waits x (take i piece)

pub passes_none : (x : Listing) (piece : List ℕ) (i : ℕ) → i ≡ 0 → Passes x piece i x
passes_none x piece i e = subst (λ k. Passes x piece k x) (sym e) (record {
  within = omega arith;
  hears = λ input es L. subst (λ l. Listens l (es ++ []) x) (sym (append-nil input)) (subst (λ l. Listens input l x) (sym (append-nil es)) L);
  waits = λ input es L j lt. absurd (omega arith);
})

-- a step behind them
module _ (x : Listing) (piece : List ℕ) (i : ℕ) (y : Listing) (P : Passes x piece i y) (rest : List ℕ) (rest_is : rest ≡ drop i piece) (z : Listing) (told : Advance) (A : Advances y rest z told) where
  both : (k : ℕ) → k ≤ told.taken → (input : List ℕ) → (input ++ take i piece) ++ take k (take told.taken rest) ≡ input ++ take (i + k) (take (i + told.taken) piece)
  both k h input =
      append_assoc input (take i piece) _
      ∙ ap (λ l. input ++ l) (ap (λ l. take i piece ++ l) (take-take k told.taken _ h ∙ ap (take k) rest_is) ∙ sym (take-add i k piece) ∙ sym (take-take (i + k) (i + told.taken) _ (omega (arith, h))))

  here : (input : List ℕ) (es : List Entry) → Listens input es x → Listens (input ++ take i piece) es y
  here input es L = subst (λ l. Listens (input ++ take i piece) l y) (append-nil es) (P.hears input es L)

  pub passes_on : Advances x piece z (record { taken = i + told.taken; entry = told.entry })
  passes_on =
      let size : length rest ≡ length piece - i = ap length rest_is ∙ length-drop i piece in
      record {
        within = omega (arith, size, P.within, A.within);
        moves = omega (arith, A.moves);
        hears = λ input es L.
            let whole : (input ++ take i piece) ++ take told.taken rest ≡ input ++ take (i + told.taken) piece =
            ap (λ l. (input ++ take i piece) ++ l) (sym (take-take told.taken told.taken _ (omega arith))) ∙ both told.taken (omega arith) input ∙ ap (λ l. input ++ l) (take-take (i + told.taken) (i + told.taken) _ (omega arith)) in
            subst (λ l. Listens l (es ++ option_to_list told.entry) z) whole (A.hears (input ++ take i piece) es (here input es L));
        waits = λ input es L j lt fs q r R.
            let few : j < i + told.taken = omega (arith, lt, length-take-le (i + told.taken) piece (omega (arith, size, P.within, A.within))) in
            elim (dec_lt j i) [
              | yes h ↦ P.waits input es L j (omega (arith, h, length-take-le i piece P.within)) fs q r (subst (λ l. Reads 0 (tape_of (input ++ l)) (es ++ fs) q r) (take-take j (i + told.taken) _ (omega (arith, few)) ∙ sym (take-take j i _ (omega (arith, h)))) R)
              | no h ↦
                  let e : j ≡ i + (j - i) = omega arith in
                  let k : j - i < told.taken = omega (arith, few) in
                  A.waits (input ++ take i piece) es (here input es L) (j - i) (omega (arith, k, length-take-le told.taken rest A.within)) fs q r
                  (subst (λ l. Reads 0 (tape_of l) (es ++ fs) q r) (ap (λ m. input ++ take m (take (i + told.taken) piece)) e ∙ sym (both (j - i) (omega (arith, k)) input)) R)
            ];
      }

-- what is left of a piece, of which the rest completes no entry
pub record Passing (x : Listing) (piece rest : List ℕ) (y : Listing) : Type 0 where
  pub within : length rest ≤ length piece
  pub rest_is : rest ≡ drop (length piece - length rest) piece
  pub no_half : y.high ≡ None
  pub passes : Passes x piece (length piece - length rest) y

pub passing_none : (x : Listing) (piece : List ℕ) → x.high ≡ None → Passing x piece piece x
passing_none x piece free =
    let none : length piece - length piece ≡ 0 = omega arith in
    record {
      within = omega arith;
      rest_is = ap (λ k. drop k piece) (sym none);
      no_half = free;
      passes = passes_none x piece _ none;
    }

-- one signal number more
module _ (x : Listing) (piece rest : List ℕ) (y : Listing) (W : Passing x piece rest y) (two : 2 ≤ length rest) (s : Signal) (s-is : s ≡ signal_of (get_or rest 0 0 * 256 + get_or rest 1 0)) (r : Option Entry) (z : Listing) (same : z.high ≡ y.high) (step : (t : List Signal) (es : List Entry) → Follows t es (model y.reader) → Stepped t es s r y z) where
  abbrev left : List ℕ
  left = take (length rest - 2) (drop 2 rest)

  left_is : left ≡ drop 2 rest
  left_is = take_all (length rest - 2) (drop 2 rest) (omega (arith, length-drop 2 rest))

  next : length piece - length left ≡ (length piece - length rest) + 2
  next = omega (arith, ap length left_is, length-drop 2 rest, W.within, two)

  pub passes_step : Advances x piece z (record { taken = length piece - length left; entry = r })
  passes_step = subst (λ k. Advances x piece z (record { taken = k; entry = r })) (sym next) (passes_on x piece _ y W.passes rest W.rest_is z (record { taken = 2; entry = r }) (pair_advances y rest s r z two W.no_half s-is step))

  pub passing_more : r ≡ None → Passing x piece left z
  passing_more none =
      let A = passes_step in
      record {
        within = omega (arith, ap length left_is, length-drop 2 rest, W.within);
        rest_is = left_is ∙ ap (drop 2) W.rest_is ∙ drop-drop 2 _ piece ∙ ap (λ k. drop k piece) (sym next);
        no_half = same ∙ W.no_half;
        passes = record { within = A.within; hears = subst (λ o. Hears x (take (length piece - length left) piece) (option_to_list o) z) none A.hears; waits = A.waits };
      }

pub lines_append : (es fs : List Entry) → lines (es ++ fs) ≡ lines es ++ lines fs
lines_append [] fs = refl
lines_append (e ∷ es) fs = ap (λ l. line_of e ++ l) (lines_append es fs) ∙ sym (append_assoc (line_of e) (lines es) (lines fs))

-- more text behind the text in a buffer
behind : (out now part ls ms : List ℕ) (w n : ℕ) → w ≡ length ls → now ≡ ls ++ drop w out → n ≡ length ms → part ≡ ms ++ drop n (take (length now - w) (drop w now)) → put_mid w (length now - w) now part ≡ (ls ++ ms) ++ drop (w + n) out
behind out now part ls ms w n ew eo en ep =
    let rest : drop w now ≡ drop w out = ap (drop w) eo ∙ drop_at ls (drop w out) w (sym ew) in
    let front : take w now ≡ ls = ap (take w) eo ∙ take_at ls (drop w out) w (sym ew) in
    let size : length (drop w now) ≡ length now - w = length-drop w now in
    let whole : take (length now - w) (drop w now) ≡ drop w now = take_all (length now - w) (drop w now) (omega (arith, size)) in
    let none : drop (length now - w) (drop w now) ≡ [] = ap (λ k. drop k (drop w now)) (sym size) ∙ drop-length (drop w now) in
    (λ i. front i ++ ((ep ∙ ap (λ l. ms ++ drop n l) (whole ∙ rest) ∙ ap (λ l. ms ++ l) (drop-drop n w out)) i ++ none i))
    ∙ ap (λ l. ls ++ l) (append-nil (ms ++ drop (w + n) out))
    ∙ sym (append_assoc ls ms (drop (w + n) out))

-- so much of a piece was fed
pub record Sofar (x : Listing) (piece out : List ℕ) (fed : Fed) (now : List ℕ) (y : Listing) : Type 0 where
  pub within : fed.taken ≤ length piece
  pub fits : fed.written ≤ length out
  pub slow : fed.written ≤ 50 * fed.taken
  pub goes : (input : List ℕ) (es : List Entry) → Listens input es x → FedOn input piece es out fed now y
  pub went : (input : List ℕ) (es : List Entry) → Listens input es x → WentOn input piece es out fed

-- one step more, from the byte i on, and the line of its entry, from the place w on
module _ (x : Listing) (piece out : List ℕ) (i w : ℕ) (now : List ℕ) (y : Listing) (S : Sofar x piece out (record { taken = i; written = w }) now y) (long : length now ≡ length out) (rest : List ℕ) (rest_is : rest ≡ drop i piece) (room : 50 ≤ length now - w) (told : Advance) (z : Listing) (A : Advances y rest z told)
    (n : ℕ) (part : List ℕ) (counts : n ≡ length (lines (option_to_list told.entry))) (holds : part ≡ lines (option_to_list told.entry) ++ drop n (take (length now - w) (drop w now))) (small : n ≤ 50) where
  rest_long : length rest ≡ length piece - i
  rest_long = ap length rest_is ∙ length-drop i piece

  -- the stream with the first k bytes of the step
  stream : (input : List ℕ) (k : ℕ) → k ≤ told.taken → (input ++ take i piece) ++ take k (take told.taken rest) ≡ input ++ take (i + k) piece
  stream input k h =
      append_assoc input (take i piece) _
      ∙ ap (λ l. input ++ l) (ap (λ l. take i piece ++ l) (take-take k told.taken _ h ∙ ap (take k) rest_is) ∙ sym (take-add i k piece))

  goes_more : (input : List ℕ) (es : List Entry) → Listens input es x → FedOn input piece es out (record { taken = i + told.taken; written = w + n }) (put_mid w (length now - w) now part) z
  goes_more input es L =
      let F = S.goes input es L in
      let came = option_to_list told.entry in
      let H = A.hears (input ++ take i piece) (es ++ F.more) F.listens in
      let all = lines_append F.more came in
      let whole : (input ++ take i piece) ++ take told.taken rest ≡ input ++ take (i + told.taken) piece =
      ap (λ l. (input ++ take i piece) ++ l) (sym (take-take told.taken told.taken _ (omega arith))) ∙ stream input told.taken (omega arith) in
      record {
        more = F.more ++ came;
        listens = subst (λ l. Listens l (es ++ (F.more ++ came)) z) whole (subst (λ l. Listens ((input ++ take i piece) ++ take told.taken rest) l z) (append_assoc es F.more came) H);
        counts = omega (arith, F.counts, counts, ap length all, length-append (lines F.more) (lines came));
        holds = behind out now part (lines F.more) (lines came) w n F.counts F.holds counts holds ∙ ap (λ l. l ++ drop (w + n) out) (sym all);
      }

  -- a byte of the step
  went_rest : (input : List ℕ) (es : List Entry) → Listens input es x → (k : ℕ) → k < told.taken → (fs : List Entry) (q : ℕ) (r : List ℕ) → Reads 0 (tape_of (input ++ take (i + k) piece)) (es ++ fs) q r → length (lines fs) + 50 ≤ length out
  went_rest input es L k lk fs q r R =
      let F = S.goes input es L in
      let here = input ++ take i piece in
      let bytes = take told.taken rest in
      let more = tape_grows here (take k bytes) in
      let R' : Reads 0 (tape_of (here ++ take k bytes)) (es ++ fs) q r = subst (λ l. Reads 0 (tape_of l) (es ++ fs) q r) (sym (stream input k (omega arith))) R in
      let kept = entries_stay (tape_of here) more.0 (es ++ F.more) (es ++ fs) _ q _ r (tape_bytes here) more.1 F.listens.follows.reads (subst (λ t. Reads 0 t (es ++ fs) q r) more.2 R') in
      let same : fs ≡ F.more ++ kept.0 = append_cancel_left es fs (F.more ++ kept.0) (kept.1 ∙ append_assoc es F.more kept.0) in
      let none = A.waits here (es ++ F.more) F.listens k (omega (arith, length-take-le told.taken _ A.within)) kept.0 q r (subst (λ l. Reads 0 (tape_of (here ++ take k bytes)) l q r) kept.1 R') in
      omega (arith, room, long, F.counts, ap (λ l. length (lines l)) (same ∙ ap (λ l. F.more ++ l) none ∙ append-nil F.more))

  went_more : (input : List ℕ) (es : List Entry) → Listens input es x → WentOn input piece es out (record { taken = i + told.taken; written = w + n })
  went_more input es L j lj fs q r R =
      elim (dec_lt j i) [
        | yes h ↦ S.went input es L j h fs q r R
        | no h ↦
            let e : j ≡ i + (j - i) = omega arith in
            went_rest input es L (j - i) (omega arith) fs q r (subst (λ m. Reads 0 (tape_of (input ++ take m piece)) (es ++ fs) q r) e R)
      ]

  sofar_more : Sofar x piece out (record { taken = i + told.taken; written = w + n }) (put_mid w (length now - w) now part) z
  sofar_more = record {
    within = omega (arith, rest_long, A.within);
    fits = omega (arith, S.fits, long);
    slow = omega (arith, S.slow, A.moves);
    goes = goes_more;
    went = went_more;
  }

-- what is left of a piece, of which the rest was fed
pub record Walked (x : Listing) (piece out rest : List ℕ) (written : ℕ) (now : List ℕ) (y : Listing) : Type 0 where
  pub within : length rest ≤ length piece
  pub rest_is : rest ≡ drop (length piece - length rest) piece
  pub sofar : Sofar x piece out (record { taken = length piece - length rest; written = written }) now y

sofar_none : (x : Listing) (piece out : List ℕ) (k : ℕ) → k ≡ 0 → Sofar x piece out (record { taken = k; written = 0 }) out x
sofar_none x piece out k e = subst (λ k. Sofar x piece out (record { taken = k; written = 0 }) out x) (sym e) (record {
  within = omega arith;
  fits = omega arith;
  slow = omega arith;
  goes = λ input es L. record {
    more = [];
    listens = subst (λ l. Listens l (es ++ []) x) (sym (append-nil input)) (subst (λ l. Listens input l x) (sym (append-nil es)) L);
    counts = refl;
    holds = refl;
  };
  went = λ input es L j lt. absurd (omega arith);
})

pub walked_none : (x : Listing) (piece out : List ℕ) → Walked x piece out piece 0 out x
walked_none x piece out =
    let none : length piece - length piece ≡ 0 = omega arith in
    record {
      within = omega arith;
      rest_is = ap (λ k. drop k piece) (sym none);
      sofar = sofar_none x piece out _ none;
    }

-- nothing more was written
pub put_same : (now : List ℕ) (w : ℕ) (part : List ℕ) → part ≡ take (length now - w) (drop w now) → put_mid w (length now - w) now part ≡ now
put_same now w part e = ap (λ l. take w now ++ (l ++ drop (length now - w) (drop w now))) e ∙ ap (λ l. take w now ++ l) (take-append-drop (length now - w) (drop w now)) ∙ take-append-drop w now

pub walked_more : (x : Listing) (piece out rest : List ℕ) (w : ℕ) (now : List ℕ) (y : Listing) → Walked x piece out rest w now y → length now ≡ length out → (z : Listing) (part : List ℕ) (told : Fed) → FedOnce y rest (take (length now - w) (drop w now)) z part told → Walked x piece out (take (length rest - told.taken) (drop told.taken rest)) (w + told.written) (put_mid w (length now - w) now part) z
walked_more x piece out rest w now y W long z part told F =
    let A = F.advances in
    let room : 50 ≤ length now - w = omega (arith, F.room, length-take (length now - w) (drop w now)) in
    let i = length piece - length rest in
    let S = sofar_more x piece out i w now y W.sofar long rest W.rest_is room (record { taken = told.taken; entry = F.entry }) z A told.written part F.counts F.holds F.few in
    let left = take (length rest - told.taken) (drop told.taken rest) in
    let all : left ≡ drop told.taken rest = take_all (length rest - told.taken) (drop told.taken rest) (omega (arith, length-drop told.taken rest)) in
    let size : length left ≡ length rest - told.taken = ap length all ∙ length-drop told.taken rest in
    let next : length piece - length left ≡ i + told.taken = omega (arith, size, W.within, A.within) in
    record {
      within = omega (arith, size, W.within);
      rest_is = all ∙ ap (drop told.taken) W.rest_is ∙ drop-drop told.taken i piece ∙ ap (λ k. drop k piece) (sym next);
      sofar = subst (λ k. Sofar x piece out (record { taken = k; written = w + told.written }) (put_mid w (length now - w) now part) z) (sym next) S;
    }
