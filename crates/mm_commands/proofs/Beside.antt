-- The tables that lie beside a mission, by their names.
use Rattle.std.proofs.Common.{◌≡◌, ◌≢◌, ◌∙◌, ◌++◌, ◌+◌, ◌<◌, ◌||◌, ℕ, zero, suc, arith, Bool, true, false, refl, sym, ap}
use Rattle.std.proofs.Common.{ap₂, cond, List, [], ◌∷◌, length, take, drop, Option, Some, None, Bor, option_map, get_or}
use Rattle.std.proofs.Common.{eqb-true, nat_eq, subst, lit<, string_bytes, All, IfSome}
use Rattle.std.proofs.lemmas.List.Elements.{All-nil, All-cons, All-append}
use Rattle.std.specs.List.{list_any}
use Rattle.std.specs.Str.{NoCharPasses}
use Rattle.std.specs.Str.Pattern.{HasCharAt, RFindsChar}
use Rattle.std.proofs.lemmas.List.{take-append-drop}
use Rattle.std.proofs.lemmas.Str.Pattern.{NoCharPasses-char, drop_at_char}
use Rattle.mm_files.specs.Contents.{Reading}
use Rattle.mm_mission_text.specs.declared.document.MissionText.{MissionText}
use Rattle.mm_commands.specs.Missions.{IsApart, beside, folder_of, is_slash, name_beside, names_beside, read_beside}
use Rattle.mm_commands.specs.Missions.{readings_beside, tables_of, text_if}
use Rattle.mm_commands.specs.Reading.{name_of, reading_of}
use Rattle.mm_commands.specs.Tables.{AreApart, AreNames, given_texts, name_at, names_at, reading_at, readings_at}
use Rattle.mm_commands.specs.declared.tables.MissionTables.{MissionTables}
use Rattle.mm_commands.specs.declared.tables.TableNames.{TableNames}

-- ---- the folder of a file

-- no octet of the name is `/`
abbrev pub HasNone : List ℕ → Type 0
HasNone name = (i : ℕ) → i < length name → get_or name i 0 ≢ 47

no_slash : (name : List ℕ) → HasNone name → list_any is_slash name ≡ false
no_slash [] none = refl
no_slash (octet ∷ rest) none =
    go (is_slash octet) refl (no_slash rest (λ i within. none (suc i) (omega (arith, within))))
  where
    go : (b : Bool) → is_slash octet ≡ b → list_any is_slash rest ≡ false → (b || list_any is_slash rest) ≡ false
    go true is later = absurd (none 0 (omega arith) (eqb-true octet 47 is))
    go false is later = later

-- a name without `/` has no folder
pub no_folder : (name : List ℕ) → HasNone name → folder_of name ≡ []
unfolding folder_of
no_folder [] none = refl
no_folder (octet ∷ rest) none =
    ap (λ b. cond b (octet ∷ folder_of rest) []) (no_slash (octet ∷ rest) none)

has_slash : (front back : List ℕ) → list_any is_slash (front ++ 47 ∷ back) ≡ true
has_slash [] back = refl
has_slash (octet ∷ front) back = go (is_slash octet) (has_slash front back)
  where
    go : (b : Bool) → list_any is_slash (front ++ 47 ∷ back) ≡ true
        → (b || list_any is_slash (front ++ 47 ∷ back)) ≡ true
    go true later = refl
    go false later = later

-- a name with one has what stands before the last one, and this
pub folder_before : (front back : List ℕ) → HasNone back → folder_of (front ++ 47 ∷ back) ≡ front ++ 47 ∷ []
unfolding folder_of
folder_before [] back none = ap (λ rest. 47 ∷ rest) (no_folder back none)
folder_before (octet ∷ front) back none =
    ap (λ b. cond b (octet ∷ folder_of (front ++ 47 ∷ back)) []) (has_slash (octet ∷ front) back)
    ∙ ap (λ rest. octet ∷ rest) (folder_before front back none)

-- no character of a name is `/`
pub none_is : (name : List ℕ) → NoCharPasses (λ d. nat_eq d 47) name → HasNone name
none_is name none i within = NoCharPasses-char 47 name i none (lit< tt) within

-- the last `/` of a name, as it is found, ends its folder
pub folder_found : (name front : List ℕ) (i j : ℕ) → RFindsChar 47 name (Some (i, j)) → front ≡ take i name
    → folder_of name ≡ front ++ 47 ∷ []
folder_found name front i j found before =
    let whole : name ≡ front ++ 47 ∷ drop j name =
    sym (take-append-drop i name) ∙ ap₂ (λ a b. a ++ b) (sym before) (drop_at_char 47 name i j found.1 (lit< tt)) in
    ap folder_of whole ∙ folder_before front (drop j name) (none_is (drop j name) found.0)

-- ---- names and readings

pub lent_name : (name : Option (Bor (List ℕ))) (given : Option (List ℕ)) → option_map (λ n. n.now) name ≡ given
    → name_of name ≡ name_at given
lent_name None given is = ap name_at is
lent_name (Some name) given is = ap name_at is

pub lent_reading : (name : Option (Bor (List ℕ))) (given : Option (List ℕ)) (octets : List ℕ)
    → option_map (λ n. n.now) name ≡ given → reading_of name octets ≡ reading_at given octets
lent_reading None given octets is = ap (λ n. reading_at n octets) is
lent_reading (Some name) given octets is = ap (λ n. reading_at n octets) is

-- a name that there may be is not this one
all_at : (name : List ℕ) (other : Option (List ℕ)) → IfSome other (λ table. table ≢ name)
    → All (λ read. read ≢ name) (name_at other)
all_at name None apart = All-nil (λ read. read ≢ name)
all_at name (Some other) apart = All-cons (λ read. read ≢ name) other [] apart (All-nil (λ read. read ≢ name))

-- a name beside the mission
module _ (mission : List ℕ) where
  at_name : (name file : Option (List ℕ)) → name ≡ option_map (beside mission) file
      → name_at name ≡ name_beside mission file
  at_name name None is = ap name_at is
  at_name name (Some file) is = ap name_at is

  at_reading : (name file : Option (List ℕ)) (octets : List ℕ) → name ≡ option_map (beside mission) file
      → reading_at name octets ≡ read_beside mission file octets
  at_reading name None octets is = ap (λ n. reading_at n octets) is
  at_reading name (Some file) octets is = ap (λ n. reading_at n octets) is

  at_text : (name file : Option (List ℕ)) (octets : List ℕ) → name ≡ option_map (beside mission) file
      → text_if name octets ≡ text_if file octets
  at_text name None octets is = ap (λ n. text_if n octets) is
  at_text name (Some file) octets is = ap (λ n. text_if n octets) is

  module _ (said : MissionText) (names : TableNames) (are : AreNames mission said names) where
    -- the names of all tables
    pub names_are : names_at names ≡ names_beside mission said
    names_are = ap₂ (λ a b. a ++ b)
        (ap₂ (λ a b. a ++ b) (at_name _ said.stores.file are.stores) (at_name _ said.stations.file are.stations))
        (ap₂ (λ a b. a ++ b) (at_name _ said.passes.file are.passes)
        (at_name _ said.observations.file are.observations))

    -- what was read of them
    pub readings_are : (texts : MissionTables) → readings_at names texts ≡ readings_beside mission said texts
    readings_are texts = ap₂ (λ a b. a ++ b)
        (ap₂ (λ a b. a ++ b) (at_reading _ said.stores.file texts.stores.items are.stores)
        (at_reading _ said.stations.file texts.stations.items are.stations))
        (ap₂ (λ a b. a ++ b) (at_reading _ said.passes.file texts.passes.items are.passes)
        (at_reading _ said.observations.file texts.observations.items are.observations))

    -- none of the files that were read has this name
    pub are_apart : (name : List ℕ) → AreApart mission names name → IsApart mission said name
    are_apart name apart = subst (λ read. All (λ read. read ≢ name) (mission ∷ read)) names_are
        (All-cons (λ read. read ≢ name) mission (names_at names) apart.mission
        (All-append (λ read. read ≢ name) _ _
        (All-append (λ read. read ≢ name) _ _ (all_at name _ apart.stores) (all_at name _ apart.stations))
        (All-append (λ read. read ≢ name) _ _ (all_at name _ apart.passes) (all_at name _ apart.observations))))

    -- their texts
    pub texts_are : (texts : MissionTables) → given_texts names texts ≡ tables_of said texts
    texts_are texts =
        let stores = at_text _ said.stores.file texts.stores.items are.stores in
        let stations = at_text _ said.stations.file texts.stations.items are.stations in
        let passes = at_text _ said.passes.file texts.passes.items are.passes in
        let observations = at_text _ said.observations.file texts.observations.items are.observations in
        rw (stores, stations, passes, observations) refl
