-- Text put into memory, one piece behind the other.
--   put_then: a piece put behind another
--   put_like: the same text, told otherwise
--   number_one, number_more: one digit; one digit behind the others
use Rattle.std.proofs.Common.{◌≡◌, ℕ, ◌+◌, ◌/◌, ◌%◌, ◌^◌, ◌<◌, ◌≤◌, List, [], ◌∷◌, ◌++◌, decimal, sym, ap, ◌∙◌, subst, arith, length-append}
use Rattle.std.proofs.lemmas.Fmt.{decimal_digit, decimal_step}
use Rattle.recorder.specs.Bytes.{put_bytes}
use Rattle.recorder.proofs.Puts.{puts_append}
use Rattle.streetlist.specs.declared.text.Text.{Text}
use Rattle.streetlist.specs.Puts.{PutsTo}

pub put_then : (xs ys : List ℕ) (t u v : Text) → PutsTo xs t u → PutsTo ys u v → PutsTo (xs ++ ys) t v
put_then xs ys t u v p q = record {
  puts = record {
    behind = omega (arith, p.puts.behind, q.puts.behind, length-append xs ys);
    holds = q.puts.holds
        ∙ ap (λ (x : List ℕ). put_bytes x u.at ys) p.puts.holds
        ∙ ap (λ (x : ℕ). put_bytes (put_bytes t.out.now t.at xs) x ys) p.puts.behind
        ∙ sym (puts_append xs ys t.out.now t.at);
  };
  same = q.same ∙ p.same;
}

pub put_like : (xs ys : List ℕ) (t u : Text) → xs ≡ ys → PutsTo xs t u → PutsTo ys t u
put_like xs ys t u e p = subst (λ (x : List ℕ). PutsTo x t u) e p

pub number_one : (n : ℕ) (t u : Text) → n < 10 → PutsTo ((48 + n) ∷ []) t u → PutsTo (decimal n) t u
number_one n t u h p = put_like ((48 + n) ∷ []) (decimal n) t u (sym (decimal_digit n h)) p

pub number_more : (n : ℕ) (t u v : Text) → 10 ≤ n → n < 2 ^ 64 → PutsTo (decimal (n / 10)) t u → PutsTo ((48 + n % 10) ∷ []) u v → PutsTo (decimal n) t v
number_more n t u v a b p q =
    put_like (decimal (n / 10) ++ ((48 + n % 10) ∷ [])) (decimal n) t v (sym (decimal_step n a b)) (put_then (decimal (n / 10)) ((48 + n % 10) ∷ []) t u v p q)
