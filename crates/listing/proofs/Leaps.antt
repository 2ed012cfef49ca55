-- A whole frame of a stream, listed at once.
use Rattle.std.proofs.Common.{◌≡◌, ℕ, ◌+◌, ◌*◌, ◌/◌, ◌<◌, ◌≤◌, true, false, List, [], ◌∷◌, ◌++◌, map, length, get_or, take, Some, None, sym, refl, ap, ◌∙◌, subst, append-nil, arith, length-append, length-take, length-take-le, take_all, le-ltb}
use mathlib.Core.List.{append_cancel_left}
use Rattle.std.proofs.lemmas.List.{take-map, length-map}
use Rattle.std.proofs.lemmas.Bool.Decides.{nat_tests}
use Rattle.tape.specs.declared.signals.Signal.{Signal}
use Rattle.tape.specs.declared.signals.Signal.TheVariants.{Byte}
use Rattle.tape.specs.declared.signals.Entry.{Entry}
use Rattle.tape.specs.Follow.{Held, Follows, limit, at_once, model}
use Rattle.tape.specs.Reading.{Reads}
use Rattle.tape.proofs.Grow.{grow_front}
use Rattle.tape.proofs.Steps.{moved}
use Rattle.tape.proofs.Unique.{reads_one}
use Rattle.listing.specs.declared.listing.Listing.{Listing}
use Rattle.listing.specs.Listing.{signals, odd, tape_of, over_of, Listens}
use Rattle.listing.specs.Steps.{Advances}
use Rattle.listing.specs.Gathered.{Gathered}
use Rattle.listing.proofs.Numbers.{signals_append, odd_append, odd_even, signals_take}

-- what a reader that takes a frame at once holds
at_once_none : (x : Held) (f : List ℕ) → true ≡ at_once x f → x.held ≡ 0
at_once_none x f e = grind (arith, nat_tests)

at_once_whole : (x : Held) (f : List ℕ) → true ≡ at_once x f → length f ≡ get_or f 0 0 + 1
at_once_whole x f e = grind (arith, nat_tests)

at_once_room : (x : Held) (f : List ℕ) → true ≡ at_once x f → x.signals + length f ≤ limit
at_once_room x f e = grind (arith, nat_tests)

-- what there is room for is not cut off by the limit
limited : (ss u : List Signal) → length (take limit ss) + length u ≤ limit → take limit (ss ++ u) ≡ take limit ss ++ u
limited ss [] room = ap (take limit) (append-nil ss) ∙ sym (append-nil (take limit ss))
limited ss (s ∷ u) room =
    let all : take limit ss ≡ ss = take_all limit ss (omega (arith, length-take limit ss)) in
    take_all limit (ss ++ s ∷ u) (omega (arith, length-append ss (s ∷ u), ap length all)) ∙ ap (λ l. l ++ s ∷ u) (sym all)

module _ (x : Listing) (piece f : List ℕ) (none : x.high ≡ None) (G : Gathered piece f) (once : true ≡ at_once (model x.reader) f) where
  whole : length f ≡ get_or f 0 0 + 1
  whole = at_once_whole (model x.reader) f once

  bytes : List ℕ
  bytes = take (2 * length f) piece

  bytes_long : length bytes ≡ 2 * length f
  unfolding bytes
  bytes_long = length-take-le (2 * length f) piece G.fits

  module _ (input : List ℕ) (es : List Entry) (L : Listens input es x) where
    free : odd input ≡ None
    free = sym L.waits ∙ none

    room : length (tape_of input) + length f ≤ limit
    room = omega (arith, at_once_room (model x.reader) f once, L.follows.count)

    -- the signals of the stream with the first j of the bytes
    some_signals : (j : ℕ) → signals (input ++ take j bytes) ≡ signals input ++ map Byte (take (j / 2) f)
    unfolding bytes
    some_signals j =
        signals_append input (take j bytes) free
        ∙ ap (λ l. signals input ++ l) (signals_take j bytes ∙ ap (take (j / 2)) G.bytes ∙ take-map Byte (j / 2) f)

    all_signals : signals (input ++ bytes) ≡ signals input ++ map Byte f
    unfolding bytes
    all_signals = signals_append input bytes free ∙ ap (λ l. signals input ++ l) G.bytes

    not_over : over_of input ≡ false
    not_over = le-ltb limit (length (signals input)) (omega (arith, length-take limit (signals input), room, whole))

    leap_listens : (a : Entry) (y : Listing) → Follows (tape_of input ++ map Byte f) (es ++ a ∷ []) (model y.reader) → y.high ≡ x.high → y.over ≡ x.over → Listens (input ++ bytes) (es ++ a ∷ []) y
    leap_listens a y F eh eo = record {
      follows = subst (λ t. Follows t (es ++ a ∷ []) (model y.reader)) (sym (ap (take limit) all_signals ∙ limited (signals input) (map Byte f) (omega (arith, room, length-map f Byte)))) F;
      waits = eh ∙ none ∙ sym (odd_append input bytes free ∙ odd_even bytes (length f) bytes_long);
      over = eo ∙ L.over ∙ not_over ∙ sym (le-ltb limit (length (signals (input ++ bytes))) (omega (arith, ap length all_signals, length-append (signals input) (map Byte f), length-map f Byte, length-take limit (signals input), room, whole)));
    }

    -- no entry comes before the frame is whole
    leap_none : (j : ℕ) → j < length bytes → (fs : List Entry) (q : ℕ) (r : List ℕ) → Reads 0 (tape_of (input ++ take j bytes)) (es ++ fs) q r → fs ≡ []
    leap_none j h fs q r R =
        let begun = map Byte (take (j / 2) f) in
        let held = at_once_none (model x.reader) f once in
        let empty = moved refl (ap (λ k. take k x.reader.begun) held) L.follows.reads in
        let some = grow_front empty f (j / 2) (omega (arith, bytes_long)) (omega (arith, bytes_long, whole)) in
        let size_of : length begun ≤ length f = omega (arith, length-map (take (j / 2) f) Byte, length-take (j / 2) f) in
        let tape : tape_of (input ++ take j bytes) ≡ tape_of input ++ begun = ap (take limit) (some_signals j) ∙ limited (signals input) begun (omega (arith, room, size_of, whole)) in
        let same = (reads_one (subst (λ t. Reads 0 t (es ++ fs) q r) tape R) some).entries in
        append_cancel_left es fs [] (same ∙ sym (append-nil es))

  pub leap_advances : (a : Entry) (y : Listing) → ((t : List Signal) (es : List Entry) → Follows t es (model x.reader) → Follows (t ++ map Byte f) (es ++ a ∷ []) (model y.reader)) → y.high ≡ x.high → y.over ≡ x.over → Advances x piece y (record { taken = 2 * length f; entry = Some a })
  unfolding bytes
  leap_advances a y took eh eo = record {
    within = G.fits;
    moves = omega (arith, whole);
    hears = λ input es L. leap_listens input es L a y (took (tape_of input) es L.follows) eh eo;
    waits = leap_none;
  }
