use Rattle.std.proofs.Common.{◌≡◌, ◌++◌, ℕ, List, [], ◌∷◌, map, encode_utf8, encode_utf8_all, ◌∙◌, sym, subst, refl}
use Rattle.std.proofs.Common.{map-id, rules}
use Rattle.std.specs.Fmt.{HasWritten}
use Rattle.std.proofs.lemmas.Grind.{put_two}
use Rattle.std.proofs.lemmas.Iterator.{YieldsList-from_chars}
use Rattle.std.proofs.lemmas.Iterator.Consumers.{YieldsList-end}
use Rattle.std.proofs.lemmas.List.{map-append, append-nil}
use Rattle.std.proofs.lemmas.Str.{encodes-append}
use Rattle.mm_files.specs.FileNames.{shown_char}
use Rattle.mm_files.proofs.file_name.write_shown.Goals as goal

-- one character more
longer : (cs : List ℕ) (c : ℕ) → encode_utf8_all (map shown_char cs) ++ encode_utf8 (shown_char c) ≡ encode_utf8_all
    (map shown_char (cs ++ c ∷ []))
longer cs c = rw (map-append, encodes-append, append-nil) refl

pub loop-character-preserved : goal.loop-character-preserved
loop-character-preserved g c = λ plain.
    put_two _ _ _ _ _ _ _ (c.loop-character.invariant plain) (search rules) (longer _ _)

pub returns : goal.returns
returns g c = record {
  writes = λ plain ok.
      let done = YieldsList-end (YieldsList-from_chars c.args.name.now c.utf8.name cc) c.loop-character.yielded _
      c.loop-character.yielded_by _ _ c.in-None.is c.next.ensures.steps in
      subst (λ cs. HasWritten g.W.Write.write_str_gives c.args.f.now
      (encode_utf8_all (map shown_char cs)) c.loop-character.f)
      (sym (map-id c.loop-character.yielded) ∙ done.0) (c.loop-character.invariant plain);
}
