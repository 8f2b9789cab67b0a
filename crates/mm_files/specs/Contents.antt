-- What is known of files by their names, and what was read of them.
use Rattle.std.specs.Prelude.{◌≡◌, ◌≢◌, ◌++◌, ℕ, Bool, List, Option, Some, None, All}

-- what is known of a file: that there is none, nothing, or its bytes
pub data Content : Type 0 where
  missing : Content
  unknown : Content
  known : List ℕ → Content

-- what is known of the file of each name
abbrev pub Contents : Type 0
Contents = List ℕ → Content

-- the file may have these bytes: they are its own, or nothing is known of it
abbrev pub MayBe : Content → List ℕ → Type 0
MayBe missing octets = ⊥
MayBe unknown octets = Unit {0}
MayBe (known bytes) octets = octets ≡ bytes

-- the file may be one that cannot be read: there is none, or nothing is known of it
abbrev pub MayBeUnread : Content → Type 0
MayBeUnread missing = Unit {0}
MayBeUnread unknown = Unit {0}
MayBeUnread (known bytes) = ⊥

-- what is known where it is known whether there is a file
abbrev pub content_of : Option (List ℕ) → Content
content_of (Some bytes) = known bytes
content_of None = missing

-- the file of this name has these bytes now, and every other file is as it was
pub record IsStored (old new : Contents) (name octets : List ℕ) : Type 0 where
  pub whole : MayBe (new name) octets
  pub others : (other : List ℕ) → other ≢ name → new other ≡ old other

-- a file that was read: its name, and the bytes that came
pub record Reading : Type 0 where
  pub name : List ℕ
  pub octets : List ℕ

-- the file of this name was read, and these bytes came
abbrev pub reading : List ℕ → List ℕ → Reading
reading name octets = record { name = name; octets = octets }

-- what is known of each file; what was read so far, in order, where that is noted; and whether `-` is no file, but a
-- standard stream
pub record FilesView : Type 0 where
  pub streams : Bool
  pub contents : Contents
  pub readings : Option (List Reading)

-- what is seen of the files at one moment
abbrev pub seen : Bool → Contents → Option (List Reading) → FilesView
seen streams contents readings = record { streams = streams; contents = contents; readings = readings }

-- these readings are noted after those before
abbrev pub Notes : Option (List Reading) → Option (List Reading) → List Reading → Type 0
Notes None after readings = Unit {0}
Notes (Some before) None readings = ⊥
Notes (Some before) (Some after) readings = after ≡ before ++ readings

-- these files were read: each is noted after those before, and has the bytes of its file where they are known
pub record WereRead (contents : Contents) (before after : Option (List Reading)) (readings : List Reading) : Type 0
  where
    pub noted : Notes before after readings
    pub known : All (λ r. MayBe (contents r.name) r.octets) readings
