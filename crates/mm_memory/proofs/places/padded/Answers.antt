use Rattle.mm_memory.proofs.Words.{◌≡◌, ℕ, ◌-◌, ◌++◌, List, [], ◌∷◌, length, sym, subst, ap, arith, drop, replicate}
use Rattle.mm_memory.proofs.Words.{IsIdField, field_of, padding}
use Rattle.mm_memory.proofs.TextLemmas.{is_text}
use Rattle.mm_memory.proofs.places.padded.Goals as goal

pub returns : goal.returns
returns c =
    let text = c.args.text.now in
    let padded : c.copy_from_slice.new.self ++ drop {A = ℕ} (length text) (32 ∷ 32 ∷ 32 ∷ 32 ∷ 32 ∷ 32 ∷ 32 ∷ 32 ∷ [])
    ≡ field_of text =
    rw (padding (length text)) (ap (λ (t : List ℕ). t ++ replicate (8 - length text) 32)
    c.copy_from_slice.ensures.after) in
    record {
      padded = record {
        padded = padded;
        is_text = λ is. is_text text c.in_ok-last.last.now (sym c.in_ok-last.ensures.value) c.if-last-eq32.false
            (omega (arith, c.if-text-gt8.false)) (subst IsIdField padded is);
      };
    }
