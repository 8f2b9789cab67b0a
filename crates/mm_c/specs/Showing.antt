-- What is told of a store of a memory, and of the reports that wait, by the definitions of `mm_service`.
use Rattle.std.specs.Prelude.{◌≡◌, ◌⊎◌, if◌then◌else◌}
use Rattle.mm_c.specs.Words.{ℕ, List, length, replicate, Bool, Option, Some, None, Ok, Err, Serving, Answer, Written}
use Rattle.mm_c.specs.Words.{End}
use Rattle.mm_base.specs.Id.{id_text}
use Rattle.mm_base.specs.Kind.{code_of}
use Rattle.mm_desk.specs.declared.state.Retrieval.{Retrieval}
use Rattle.mm_service.specs.declared.showing.Listed.{Listed}
use Rattle.mm_service.specs.declared.showing.Shown.{Shown}
use Rattle.mm_memory.specs.Reports.{status_of}
use Rattle.mm_service.specs.Showing.{shown_of, store_at}
use Rattle.mm_c.specs.Serving.{ended, IsRefused}
use Rattle.mm_c.specs.declared.showing.ListedTold.{ListedTold}
use Rattle.mm_c.specs.declared.showing.StoreTold.{StoreTold}
use Rattle.mm_c.specs.declared.showing.TheConstants.{NO_KIND}

-- what is told where there is no store
abbrev pub no_store : StoreTold
no_store = record {
  kind = NO_KIND;
  size = 0;
  held = 0;
  storage = 0;
  retrieval = 0;
  offered = 0;
  lost = 0;
  deleted = 0;
  oldest = 0;
  newest = 0;
  from = 0;
  to = 0;
  after = 0;
}

-- the same with the retrieval that is on
abbrev pub with_retrieval : StoreTold → Option Retrieval → StoreTold
with_retrieval told (Some on) = record told { retrieval = 1; from = on.from; to = on.to; after = on.after }
with_retrieval told None = told

-- what is told of a store
abbrev pub store_told : Shown → StoreTold
store_told s = with_retrieval (record no_store {
  kind = code_of s.kind;
  size = s.size;
  held = s.held;
  storage = status_of s.storage;
  offered = s.offered;
  lost = s.lost;
  deleted = s.deleted;
  oldest = s.oldest;
  newest = s.newest;
}) s.retrieval

-- what a store holds and has lost is told and nothing has changed, or the call is refused
abbrev pub ShowsStore : List ℕ → StoreTold → Answer → Serving → Serving → Type 0
ShowsStore id told answer s t =
    ((shown : Shown) × (shown_of id s ≡ Ok shown) × (t ≡ s) × (told ≡ store_told shown) × (answer ≡ ended Written))
    ⊎ (IsRefused (λ fault. shown_of id s ≡ Err fault) s t answer × (told ≡ no_store))

-- how many reports wait is told, and nothing has changed
abbrev pub ShowsWaiting : ℕ → Answer → Serving → Serving → Type 0
ShowsWaiting told answer s t = (t ≡ s) × (told ≡ length s.waiting) × (answer ≡ ended Written)

-- how many packets were refused out of memory is told, and nothing has changed
abbrev pub ShowsRefused : ℕ → Answer → Serving → Serving → Type 0
ShowsRefused told answer s t = (t ≡ s) × (told ≡ s.refused) × (answer ≡ ended Written)

-- what is told where the list has no store
abbrev pub none_listed : ListedTold
none_listed = record { id = replicate 8 0; id_length = 0; channel = 0; state = no_store }

-- what is told of a store in the list
abbrev pub listed_told : Listed → ListedTold
listed_told l = record { id = l.id; id_length = length (id_text l.id); channel = l.channel; state = store_told l.shown }

-- the store is told, or that there is none
abbrev pub TellsListed : Option Listed → ListedTold → Answer → Type 0
TellsListed (Some l) told answer = (told ≡ listed_told l) × (answer ≡ ended Written)
TellsListed None told answer = (told ≡ none_listed) × (answer ≡ ended End)

-- the store at a place is told, and nothing has changed
abbrev pub ListsStore : ℕ → ListedTold → Answer → Serving → Serving → Type 0
ListsStore place told answer s t = (t ≡ s) × TellsListed (store_at place s) told answer
