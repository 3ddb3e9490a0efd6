-- Laws of text that is written piece by piece, and the lengths of numbers as text.
use Rattle.std.proofs.Common.{◌≡◌, refl, sym, ap, ◌∙◌, rules, Bool, true, false, cond, List, [], ◌∷◌, ◌++◌, append_assoc, append-nil, ℕ, zero, suc, ◌+◌, ◌*◌, ◌/◌, ◌%◌, ◌≤◌, ◌<◌, ◌^◌, arith, ltb, length, get_or, take, set, length-append, drop-drop, take-suc}
use Rattle.std.proofs.lemmas.List.Edits.{sets, sets-eq}
use Rattle.std.specs.Fmt.{decimal as std_decimal}
use Rattle.std.proofs.lemmas.Fmt.{decimal_from_appends, decimal_step, length-decimal-le}
use borrow.Rule.Slice.PartMut.{put_mid}
use Rattle.answer_line.specs.AnswerLine.{decimal_by, decimal, numbers, text_line}
use Rattle.answer_line.specs.inner.Writing.{Wrote, Appended}
use Rattle.answer_line.specs.declared.text.Line.{Line}

-- ---- one piece after another

-- Setting one piece and then the next sets both as one piece.
pub sets_sets : (l : List ℕ) (i : ℕ) (xs ys : List ℕ) → sets (sets l i xs) (i + length xs) ys ≡ sets l i (xs ++ ys)
sets_sets l i [] ys = ap (λ n. sets l n ys) (omega arith)
sets_sets l i (a ∷ xs) ys =
    ap (λ n. sets (sets (set l i a) (suc i) xs) n ys) (omega arith) ∙ sets_sets (set l i a) (suc i) xs ys

-- Writing one piece and then the next writes both as one text.
pub wrote_then : {l l' l'' : List ℕ} {at next next' : ℕ} {xs ys : List ℕ} →
    Wrote l at xs next l' → Wrote l' next ys next' l'' → Wrote l at (xs ++ ys) next' l''
wrote_then {l} {l'} {l''} {at} {next} {next'} {xs} {ys} first second =
    let both = length-append xs ys in
    record {
      place = omega (arith, first.place, second.place, both);
      content =
          second.content
          ∙ ap (λ b. sets b next ys) first.content
          ∙ ap (λ n. sets (sets l at xs) n ys) first.place
          ∙ sets_sets l at xs ys;
    }

-- Copying a word over a part of the buffer sets its bytes there.
pub copied : (l word part : List ℕ) (at k : ℕ) → part ≡ word → k ≡ length word → at + length word ≤ length l →
    put_mid at k l part ≡ sets l at word
copied l word part at k is e room =
    rw (is, e, drop-drop, ← append_assoc) (sym (sets-eq word l at room))

-- Appending one piece and then the next appends both as one text.
pub appended_then : {a b c : Line} {xs ys : List ℕ} → Appended a xs b → Appended b ys c → Appended a (xs ++ ys) c
appended_then first second =
    record {
      same = second.same ∙ first.same;
      size = second.size ∙ first.size;
      wrote = wrote_then first.wrote second.wrote;
    }

-- After the last piece the buffer holds the whole text.
pub finished : {before after : Line} {text left : List ℕ} → Appended before text after →
    (before.bytes.ghost_name ≡ after.bytes.ghost_name → left ≡ after.bytes.now) → Wrote before.bytes.now before.len text after.len left
finished appended left_is = rw (left_is (sym appended.same)) appended.wrote

-- ---- numbers: their digits, and their lengths as text

-- `decimal` of the specification and of std are the same for a 32-bit number.
pub decimal_same : (n : ℕ) → n < 2 ^ 32 → decimal n ≡ std_decimal n
unfolding decimal_by
decimal_same n fits =
    decimal_from_appends decimal_by (search rules) 10 n (omega (arith, fits)) (length-decimal-le 10 n (omega arith) (omega (arith, fits)) (omega (arith, fits)))

-- A number of two digits or more has one digit more than its tenth part.
pub more_digits : (n : ℕ) → 10 ≤ n → n < 2 ^ 32 → length (std_decimal n) ≡ length (std_decimal (n / 10)) + 1
more_digits n large fits =
    ap length (decimal_step n large (omega (arith, fits))) ∙ length-append (std_decimal (n / 10)) ((48 + n % 10) ∷ [])

pub length_decimal : (places n : ℕ) → length (decimal_by places n) ≤ places
unfolding decimal_by
length_decimal zero n = omega arith
length_decimal (suc places) n = by (ltb n 10) (length_decimal places (n / 10))
  where
    by : (b : Bool) → length (decimal_by places (n / 10)) ≤ places →
        length (cond b ((48 + n) ∷ []) (decimal_by places (n / 10) ++ ((48 + n % 10) ∷ []))) ≤ suc places
    by true shorter = omega arith
    by false shorter =
        let both = length-append (decimal_by places (n / 10)) ((48 + n % 10) ∷ []) in omega (arith, shorter, both)

pub one_number : (n : ℕ) → numbers (n ∷ []) ≡ 32 ∷ decimal n
unfolding numbers
one_number n = ap (λ t. 32 ∷ t) (append-nil (decimal n))

pub numbers_append : (xs ys : List ℕ) → numbers (xs ++ ys) ≡ numbers xs ++ numbers ys
unfolding numbers
numbers_append [] ys = refl
numbers_append (x ∷ xs) ys =
    ap (λ t. (32 ∷ decimal x) ++ t) (numbers_append xs ys) ∙ sym (append_assoc (32 ∷ decimal x) (numbers xs) (numbers ys))

pub length_numbers : (ns : List ℕ) → length (numbers ns) ≤ 11 * length ns
unfolding numbers
length_numbers [] = omega arith
length_numbers (n ∷ ns) =
    let here = length_decimal 10 n in
    let rest = length_numbers ns in
    let both = length-append (32 ∷ decimal n) (numbers ns) in
    omega (arith, here, rest, both)

-- Appending a number and then others appends the whole list of numbers.
pub appended_number : {a b c : Line} (n m : ℕ) (ns : List ℕ) → m ≡ n →
    Appended a (numbers (m ∷ [])) b → Appended b (numbers ns) c → Appended a (numbers (n ∷ ns)) c
appended_number n m ns e first second =
    let joined = appended_then first second in rw (numbers_append (n ∷ []) ns, sym e) joined

-- Appending numbers and then one more appends the list with it at its end.
pub appended_last : {a b c : Line} (ns : List ℕ) (n m : ℕ) → m ≡ n →
    Appended a (numbers ns) b → Appended b (numbers (m ∷ [])) c → Appended a (numbers (ns ++ (n ∷ []))) c
appended_last ns n m e first second =
    let joined = appended_then first second in rw (numbers_append ns (n ∷ []), sym e) joined

-- A number takes at most eleven bytes, and the end of the line takes one.
pub length_line : (word ns : List ℕ) → length (text_line word ns) ≤ length word + 11 * length ns + 1
length_line word ns =
    let both = length-append word (numbers ns ++ (10 ∷ [])) in
    let end = length-append (numbers ns) (10 ∷ []) in
    let few = length_numbers ns in
    omega (arith, both, end, few)

-- ---- the steps of a loop over a list: its next number, after those before it

pub appended_none : (a : Line) → Appended a (numbers []) a
unfolding numbers
appended_none a = record { same = refl; size = refl; wrote = record { place = omega arith; content = refl } }

pub next_number : (ns : List ℕ) (i : ℕ) → i < length ns →
    numbers (take i ns) ++ numbers (get_or ns i 0 ∷ []) ≡ numbers (take (i + 1) ns)
next_number ns i i< =
    let e : i + 1 ≡ suc i = omega arith in
    sym (numbers_append (take i ns) (get_or ns i 0 ∷ [])) ∙ ap numbers (sym (ap (λ n. take n ns) e ∙ take-suc ns i 0 i<))

-- Appending the first i numbers of a list and then the next appends the first i + 1.
pub appended_next : {a b c : Line} (ns : List ℕ) (i m : ℕ) → i < length ns → m ≡ get_or ns i 0 →
    Appended a (numbers (take i ns)) b → Appended b (numbers (m ∷ [])) c → Appended a (numbers (take (i + 1) ns)) c
appended_next ns i m i< e first second =
    let joined = appended_then first second in rw (← next_number ns i i<, ← e) joined
