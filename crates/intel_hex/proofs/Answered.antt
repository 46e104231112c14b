-- The answers of `write` and `read`: each by its cause. Assumes nothing.
use Rattle.std.proofs.Common.{◌≡◌, ℕ, ◌<◌, ◌≤◌, ◌↔◌, Bool, true, false, cond, List, ◌++◌, length, take, drop, sym, refl, ap, ◌∙◌, true≢false, arith, take_at, le-leb}
use Rattle.std.proofs.lemmas.List.{take_all}
use Rattle.std.specs.Prelude.{Result, Ok, Err}
use borrow.Author.Tests.{lt-leb}
use Rattle.image.specs.declared.Refusal.{Refusal}
use Rattle.image.specs.declared.Refusal.TheVariants.{BadLength, BadCount, BadRow, UnknownByte, OperandsCutOff, OutOfRange, BadEnd, BadTarget}
use Rattle.image.specs.Code.{Verdict}
use Rattle.image.specs.Image.{number_of_refusal, image_verdict}
use Rattle.intel_hex.specs.declared.WriteError.{WriteError}
use Rattle.intel_hex.specs.declared.WriteError.TheVariants.{BadImage, NoRoom as NoTextRoom}
use Rattle.intel_hex.specs.declared.ReadError.{ReadError}
use Rattle.intel_hex.specs.declared.ReadError.TheVariants.{Malformed, BadChecksum, BadSpan, NoRoom as NoByteRoom}
use Rattle.hex_format.specs.Text.{hex_of}
use Rattle.hex_format.specs.Lines.{text_lines}
use Rattle.hex_format.specs.Reading.{malformed, bad_checksum, bad_span, said_by, text_number}
use Rattle.intel_hex.specs.Answers.{ReadsAs, number_of_hex_written, characters_of, hex_written, text_after, text_length, HexWrites, number_of_hex_read, bytes_in, verdict_of, hex_read, bytes_after, HexReads}
use Rattle.intel_hex.specs.Found.{PutsText}
use Rattle.intel_hex.proofs.Storing.{sets-front}
use Rattle.intel_hex.proofs.RoundTrip.{Small}
use Rattle.intel_hex.proofs.Canonical.{reads-back, canonical, text-length}

pub numbers : (r : Refusal) → (1 ≤ number_of_refusal r) × (number_of_refusal r ≤ 8)
numbers BadLength = (omega arith, omega arith)
numbers BadCount = (omega arith, omega arith)
numbers BadRow = (omega arith, omega arith)
numbers UnknownByte = (omega arith, omega arith)
numbers OperandsCutOff = (omega arith, omega arith)
numbers OutOfRange = (omega arith, omega arith)
numbers BadEnd = (omega arith, omega arith)
numbers BadTarget = (omega arith, omega arith)

-- all of n bytes are the first n of them
front-whole : (bytes before after : List ℕ) (n : ℕ) → n ≡ length bytes → after ≡ bytes ++ drop n before → after ≡ take n bytes ++ drop n before
front-whole bytes before after n size is = is ∙ ap (λ s. s ++ drop n before) (sym (take_all n bytes (omega (arith, size))))

-- `count` of `HexWrites` follows from its `number0` and `text`
pub written-count : (image before after : List ℕ) (answer : Result ℕ WriteError) → (number_of_hex_written answer ≡ 0) ↔ (answer ≡ Ok (text_length (length image)))
    → after ≡ text_after answer image before → after ≡ take (characters_of answer) (hex_of image) ++ drop (characters_of answer) before
written-count image before after (Ok n) given is = front-whole (hex_of image) before after n (ap characters_of (given.0 refl) ∙ sym (text-length image)) is
written-count image before after (Err error) given is = is

module _ (image before : List ℕ) where
  -- a bad image
  pub bad-image : (refusal : Refusal) → image_verdict image ≡ Err refusal → HexWrites image before before (Err (BadImage refusal))
  unfolding hex_written
  bad-image refusal v =
      let some = numbers refusal in
      record {
        answered = rw v;
        numbers1to8 = λ other. (λ p. v ∙ ap Err cc, λ p. let q : ◌≡◌ {A = Verdict} (Err refusal) (Err other) = sym v ∙ p in cc);
        number25 = (λ p. absurd (omega arith), λ p. absurd (not-both refusal (sym v ∙ p.0)));
        number0 = (λ p. absurd (omega arith), ap number_of_hex_written);
        text = refl;
        count = refl;
        back = λ n p. let z : number_of_refusal refusal ≡ 0 = ap number_of_hex_written p in absurd (omega arith);
      }
    where
      not-both : (r : Refusal) → ◌≡◌ {A = Verdict} (Err r) (Ok tt) → ⊥
      not-both r p = let z : ◌≡◌ {A = ℕ} 0 1 = cc in omega arith

  module _ (v : image_verdict image ≡ Ok tt) where
    not-rejected : (r : Refusal) → image_verdict image ≡ Err r → ⊥
    not-rejected r p = let q : ◌≡◌ {A = Verdict} (Ok tt) (Err r) = sym v ∙ p in let z : ◌≡◌ {A = ℕ} 0 1 = cc in omega arith

    -- too short an output
    pub no-text-room : length before < text_length (length image) → HexWrites image before before (Err NoTextRoom)
    unfolding hex_written
    no-text-room h =
        record {
          answered = rw (v, text-length image, lt-leb (text_length (length image)) (length before) h);
          numbers1to8 = λ r. (λ p. absurd (no-room-bad r p), λ p. absurd (not-rejected r p));
          number25 = (λ p. (v, h), λ p. refl);
          number0 = (λ p. absurd (omega arith), ap number_of_hex_written);
          text = refl;
          count = refl;
          back = λ n p. let z : ◌≡◌ {A = ℕ} 25 0 = ap number_of_hex_written p in absurd (omega arith);
        }
      where
        no-room-bad : (r : Refusal) → ◌≡◌ {A = Result ℕ WriteError} (Err NoTextRoom) (Err (BadImage r)) → ⊥
        no-room-bad r p = let z : 25 ≡ number_of_refusal r = ap number_of_hex_written p in omega (arith, (numbers r).1)

    -- the text
    pub text-written : {after : List ℕ} (n : ℕ) → n ≡ text_length (length image) → n ≤ length before → Small image → length image ≤ 4096 → PutsText (hex_of image) before 0 after
        → HexWrites image before after (Ok n)
    unfolding hex_written
    text-written {after} n e h small most p =
        let size : length (hex_of image) ≡ n = text-length image ∙ sym e in
        let all : after ≡ hex_of image ++ drop n before = p.stored ∙ sets-front before (hex_of image) n size h in
        record {
          answered = rw (v, size, le-leb n (length before) h);
          numbers1to8 = λ r. (λ q. let z : 0 ≡ number_of_refusal r = ap number_of_hex_written q in absurd (omega (arith, (numbers r).0)), λ q. absurd (not-rejected r q));
          number25 = (λ q. absurd (omega arith), λ q. absurd (omega (arith, q.1)));
          number0 = (λ q. ap Ok e, λ q. refl);
          text = all;
          count = written-count image before after (Ok n) (λ q. ap Ok e, λ q. refl) all;
          back = λ m q.
              let same : n ≡ m = ap characters_of q in
              rw (← same, all, take_at (hex_of image) (drop n before) n size) (reads-back image small (omega arith));
        }

-- `count` of `HexReads` follows from its `number0` and `bytes`
pub read-count : (text before after : List ℕ) (answer : Result ℕ ReadError) → (number_of_hex_read answer ≡ 0) ↔ (answer ≡ Ok (length (said_by (text_lines text))))
    → after ≡ bytes_after answer text before → after ≡ take (bytes_in answer) (said_by (text_lines text)) ++ drop (bytes_in answer) before
read-count text before after (Ok n) given is = front-whole (said_by (text_lines text)) before after n (ap bytes_in (given.0 refl)) is
read-count text before after (Err error) given is = is

-- the three tests, in their order
data Tested (lines : List (List ℕ)) : Result ℕ ReadError → Type 0 where
  lined : malformed lines ≡ true → Tested lines (Err Malformed)
  summed : malformed lines ≡ false → bad_checksum lines ≡ true → Tested lines (Err BadChecksum)
  spanned : malformed lines ≡ false → bad_checksum lines ≡ false → bad_span 0 lines ≡ true → Tested lines (Err BadSpan)
  passed : malformed lines ≡ false → bad_checksum lines ≡ false → bad_span 0 lines ≡ false → Tested lines (Ok (length (said_by lines)))

tested : (lines : List (List ℕ)) → Tested lines (verdict_of lines)
unfolding verdict_of
tested lines = one (malformed lines) (bad_checksum lines) (bad_span 0 lines) refl refl refl
  where
    one : (a b c : Bool) → malformed lines ≡ a → bad_checksum lines ≡ b → bad_span 0 lines ≡ c
        → Tested lines (cond a (Err Malformed) (cond b (Err BadChecksum) (cond c (Err BadSpan) (Ok (length (said_by lines))))))
    one true b c x y z = lined x
    one false true c x y z = summed x y
    one false false true x y z = spanned x y z
    one false false false x y z = passed x y z

-- the verdict's number is the text's
pub verdict-number : (lines : List (List ℕ)) → number_of_hex_read (verdict_of lines) ≡ text_number lines
unfolding verdict_of text_number
verdict-number lines = one (malformed lines) (bad_checksum lines) (bad_span 0 lines)
  where
    one : (a b c : Bool) → number_of_hex_read (cond a (Err Malformed) (cond b (Err BadChecksum) (cond c (Err BadSpan) (Ok (length (said_by lines)))))) ≡ cond a 27 (cond b 28 (cond c 29 0))
    one true b c = refl
    one false true c = refl
    one false false true = refl
    one false false false = refl

-- what each verdict tells
module _ (lines : List (List ℕ)) where
  apart : {a b : Result ℕ ReadError} → a ≡ b → number_of_hex_read a ≡ number_of_hex_read b
  apart = ap number_of_hex_read

  told-bytes : (n : ℕ) (r : Result ℕ ReadError) → Tested lines r → r ≡ Ok n → (malformed lines ≡ false) × (bad_checksum lines ≡ false) × (bad_span 0 lines ≡ false) × (n ≡ length (said_by lines))
  told-bytes n (Err Malformed) (lined x) e = absurd (omega (arith, apart e))
  told-bytes n (Err BadChecksum) (summed x y) e = absurd (omega (arith, apart e))
  told-bytes n (Err BadSpan) (spanned x y z) e = absurd (omega (arith, apart e))
  told-bytes n (Ok m) (passed x y z) e = (x, y, z, sym (ap bytes_in e))
  told-bytes n (Err NoByteRoom) x e = elim x [ ]

  pub passes : (n : ℕ) → Ok n ≡ verdict_of lines → (malformed lines ≡ false) × (bad_checksum lines ≡ false) × (bad_span 0 lines ≡ false) × (n ≡ length (said_by lines))
  passes n e = told-bytes n (verdict_of lines) (tested lines) (sym e)

  told-malformed : (r : Result ℕ ReadError) → Tested lines r → r ≡ Err Malformed → malformed lines ≡ true
  told-malformed (Err Malformed) (lined x) e = x
  told-malformed (Err BadChecksum) (summed x y) e = absurd (omega (arith, apart e))
  told-malformed (Err BadSpan) (spanned x y z) e = absurd (omega (arith, apart e))
  told-malformed (Ok m) (passed x y z) e = absurd (omega (arith, apart e))
  told-malformed (Err NoByteRoom) x e = elim x [ ]

  told-checksum : (r : Result ℕ ReadError) → Tested lines r → r ≡ Err BadChecksum → (malformed lines ≡ false) × (bad_checksum lines ≡ true)
  told-checksum (Err Malformed) (lined x) e = absurd (omega (arith, apart e))
  told-checksum (Err BadChecksum) (summed x y) e = (x, y)
  told-checksum (Err BadSpan) (spanned x y z) e = absurd (omega (arith, apart e))
  told-checksum (Ok m) (passed x y z) e = absurd (omega (arith, apart e))
  told-checksum (Err NoByteRoom) x e = elim x [ ]

  told-span : (r : Result ℕ ReadError) → Tested lines r → r ≡ Err BadSpan → (malformed lines ≡ false) × (bad_checksum lines ≡ false) × (bad_span 0 lines ≡ true)
  told-span (Err Malformed) (lined x) e = absurd (omega (arith, apart e))
  told-span (Err BadChecksum) (summed x y) e = absurd (omega (arith, apart e))
  told-span (Err BadSpan) (spanned x y z) e = (x, y, z)
  told-span (Ok m) (passed x y z) e = absurd (omega (arith, apart e))
  told-span (Err NoByteRoom) x e = elim x [ ]

  told-room : (r : Result ℕ ReadError) → Tested lines r → r ≡ Err NoByteRoom → ⊥
  told-room (Err Malformed) (lined x) e = omega (arith, apart e)
  told-room (Err BadChecksum) (summed x y) e = omega (arith, apart e)
  told-room (Err BadSpan) (spanned x y z) e = omega (arith, apart e)
  told-room (Ok m) (passed x y z) e = omega (arith, apart e)
  told-room (Err NoByteRoom) x e = elim x [ ]

  no-room-told : Err NoByteRoom ≡ verdict_of lines → ⊥
  no-room-told e = told-room (verdict_of lines) (tested lines) (sym e)

unlike : {b : Bool} → b ≡ true → b ≡ false → ⊥
unlike x y = true≢false (sym x ∙ y)

module _ (text before : List ℕ) where
  is-malformed : Err Malformed ≡ verdict_of (text_lines text) → HexReads text before before (Err Malformed)
  unfolding hex_read
  is-malformed e =
      let x : malformed (text_lines text) ≡ true = told-malformed (text_lines text) (verdict_of (text_lines text)) (tested (text_lines text)) (sym e) in
      record {
        answered = rw (← e);
        number27 = (λ p. x, λ p. refl);
        number28 = (λ p. absurd (omega arith), λ p. absurd (unlike x p.0));
        number29 = (λ p. absurd (omega arith), λ p. absurd (unlike x p.0));
        number25 = (λ p. absurd (omega arith), λ p. absurd (unlike x p.0.lines));
        number0 = (λ p. absurd (omega arith), ap number_of_hex_read);
        bytes = refl;
        count = refl;
        reads = λ n p. let z : ◌≡◌ {A = ℕ} 27 0 = ap number_of_hex_read p in absurd (omega arith);
        canonical = λ n p. let z : ◌≡◌ {A = ℕ} 27 0 = ap number_of_hex_read p in absurd (omega arith);
      }

  is-bad-checksum : Err BadChecksum ≡ verdict_of (text_lines text) → HexReads text before before (Err BadChecksum)
  unfolding hex_read
  is-bad-checksum e =
      let t = told-checksum (text_lines text) (verdict_of (text_lines text)) (tested (text_lines text)) (sym e) in
      record {
        answered = rw (← e);
        number27 = (λ p. absurd (omega arith), λ p. absurd (unlike p t.0));
        number28 = (λ p. t, λ p. refl);
        number29 = (λ p. absurd (omega arith), λ p. absurd (unlike t.1 p.1));
        number25 = (λ p. absurd (omega arith), λ p. absurd (unlike t.1 p.0.checksums));
        number0 = (λ p. absurd (omega arith), ap number_of_hex_read);
        bytes = refl;
        count = refl;
        reads = λ n p. let z : ◌≡◌ {A = ℕ} 28 0 = ap number_of_hex_read p in absurd (omega arith);
        canonical = λ n p. let z : ◌≡◌ {A = ℕ} 28 0 = ap number_of_hex_read p in absurd (omega arith);
      }

  is-bad-span : Err BadSpan ≡ verdict_of (text_lines text) → HexReads text before before (Err BadSpan)
  unfolding hex_read
  is-bad-span e =
      let t = told-span (text_lines text) (verdict_of (text_lines text)) (tested (text_lines text)) (sym e) in
      record {
        answered = rw (← e);
        number27 = (λ p. absurd (omega arith), λ p. absurd (unlike p t.0));
        number28 = (λ p. absurd (omega arith), λ p. absurd (unlike p.1 t.1));
        number29 = (λ p. t, λ p. refl);
        number25 = (λ p. absurd (omega arith), λ p. absurd (unlike t.2 p.0.span));
        number0 = (λ p. absurd (omega arith), ap number_of_hex_read);
        bytes = refl;
        count = refl;
        reads = λ n p. let z : ◌≡◌ {A = ℕ} 29 0 = ap number_of_hex_read p in absurd (omega arith);
        canonical = λ n p. let z : ◌≡◌ {A = ℕ} 29 0 = ap number_of_hex_read p in absurd (omega arith);
      }

  -- whatever it is refused for
  pub is-refused : (error : ReadError) → Err error ≡ verdict_of (text_lines text) → HexReads text before before (Err error)
  is-refused Malformed e = is-malformed e
  is-refused BadChecksum e = is-bad-checksum e
  is-refused BadSpan e = is-bad-span e
  is-refused NoByteRoom e = absurd (no-room-told (text_lines text) e)

  module _ (n : ℕ) (e : Ok n ≡ verdict_of (text_lines text)) where
    all_pass : ReadsAs text (said_by (text_lines text))
    all_pass = let t = passes (text_lines text) n e in record { lines = t.0; checksums = t.1; span = t.2; said = refl }

    pub no-byte-room : length before < n → HexReads text before before (Err NoByteRoom)
    unfolding hex_read
    no-byte-room h =
        let t = passes (text_lines text) n e in
        record {
          answered = rw (← e, lt-leb n (length before) h);
          number27 = (λ p. absurd (omega arith), λ p. absurd (unlike p t.0));
          number28 = (λ p. absurd (omega arith), λ p. absurd (unlike p.1 t.1));
          number29 = (λ p. absurd (omega arith), λ p. absurd (unlike p.2 t.2));
          number25 = (λ p. (all_pass, omega (arith, t.3)), λ p. refl);
          number0 = (λ p. absurd (omega arith), ap number_of_hex_read);
          bytes = refl;
          count = refl;
          reads = λ m p. let z : ◌≡◌ {A = ℕ} 25 0 = ap number_of_hex_read p in absurd (omega arith);
          canonical = λ m p. let z : ◌≡◌ {A = ℕ} 25 0 = ap number_of_hex_read p in absurd (omega arith);
        }

    pub bytes_read : {after : List ℕ} → n ≤ length before → after ≡ said_by (text_lines text) ++ drop n before → HexReads text before after (Ok n)
    unfolding hex_read
    bytes_read {after} h is =
        let t = passes (text_lines text) n e in
        record {
          answered = rw (← e, le-leb n (length before) h);
          number27 = (λ p. absurd (omega arith), λ p. absurd (unlike p t.0));
          number28 = (λ p. absurd (omega arith), λ p. absurd (unlike p.1 t.1));
          number29 = (λ p. absurd (omega arith), λ p. absurd (unlike p.2 t.2));
          number25 = (λ p. absurd (omega arith), λ p. absurd (omega (arith, p.1, t.3)));
          number0 = (λ p. ap Ok t.3, λ p. refl);
          bytes = is;
          count = read-count text before after (Ok n) (λ p. ap Ok t.3, λ p. refl) is;
          reads = λ m p. front m (ap bytes_in p);
          canonical = λ m p. canonical text (take m after) (front m (ap bytes_in p));
        }
      where
        front : (m : ℕ) → n ≡ m → ReadsAs text (take m after)
        front m q =
            let s : take m after ≡ said_by (text_lines text) = rw (← q, is) (take_at (said_by (text_lines text)) (drop n before) n (sym (passes (text_lines text) n e).3)) in
            rw s all_pass
