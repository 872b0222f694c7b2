-- A list in memory of the most that is printed.
--   listed_text: what is printed where the list was given
--   refused_list: what is printed where it was refused
use Rattle.std.proofs.Common.{◌≡◌, ℕ, Bool, true, false, cond, ltb, List, ◌++◌, length, take, drop, Ok, Err, Result, sym, refl, ap, ◌∙◌, arith}
use Rattle.std.proofs.lemmas.List.{take_at}
use Rattle.symbols.specs.declared.refusals.Refusal.{Refusal}
use Rattle.symbols.specs.declared.refusals.Refusal.TheVariants.{Short}
use Rattle.streetlist.specs.Lists.{memory_answer, memory_after}
use Rattle.printed.specs.Printed.{refused_text, most_list, printed_list}

pub refilled : (len : ℕ) (items ws : List ℕ) → length ws ≡ len → take len (ws ++ drop (length ws) items) ≡ ws
refilled len items ws e = take_at ws (drop (length ws) items) len e

pub listed_text : (o : Result (List ℕ) Refusal) (old now : List ℕ) (n : ℕ) → length old ≡ most_list → Ok n ≡ memory_answer o old → now ≡ memory_after o old → take n now ≡ printed_list o
listed_text (Ok a) old now n l e m = by (ltb (length old) (length a)) refl e m
  where
    by : (t : Bool) → ltb (length old) (length a) ≡ t → Ok n ≡ cond t (Err Short) (Ok (length a)) → now ≡ cond t old (a ++ drop (length a) old) → take n now ≡ cond (ltb most_list (length a)) (refused_text Short) a
    by true q e m = (let z : ◌≡◌ {A = ℕ} 0 1 = cc in absurd (omega arith))
    by false q e m =
        let k : n ≡ length a = cc in
        let f : ltb most_list (length a) ≡ false = ap (λ (x : ℕ). ltb x (length a)) (sym l) ∙ q in
        ap (take n) m ∙ take_at a (drop (length a) old) n (sym k) ∙ sym (ap (λ (t : Bool). cond t (refused_text Short) a) f)
listed_text (Err f) old now n l e m = (let z : ◌≡◌ {A = ℕ} 0 1 = cc in absurd (omega arith))

pub refused_list : (o : Result (List ℕ) Refusal) (old : List ℕ) (f : Refusal) → length old ≡ most_list → Err f ≡ memory_answer o old → refused_text f ≡ printed_list o
refused_list (Ok a) old f l e = by (ltb (length old) (length a)) refl e
  where
    by : (t : Bool) → ltb (length old) (length a) ≡ t → ◌≡◌ {A = Result ℕ Refusal} (Err f) (cond t (Err Short) (Ok (length a))) → refused_text f ≡ cond (ltb most_list (length a)) (refused_text Short) a
    by true q e =
        let k : f ≡ Short = cc in
        let t : ltb most_list (length a) ≡ true = ap (λ (x : ℕ). ltb x (length a)) (sym l) ∙ q in
        ap refused_text k ∙ sym (ap (λ (b : Bool). cond b (refused_text Short) a) t)
    by false q e = (let z : ◌≡◌ {A = ℕ} 0 1 = cc in absurd (omega arith))
refused_list (Err g) old f l e = (let k : f ≡ g = cc in ap refused_text k)
