-- A recorder at work: what its source gave so far is recorded.
use Rattle.mm_record.proofs.Words.{◌≡◌, ◌≢◌, ℕ, ◌<◌, List, [], ◌∷◌, ◌++◌, length, Some, Ok, Err, refl, sym, ap, ◌∙◌}
use Rattle.mm_record.proofs.Words.{append_assoc, SpacePacket, Entry, Event, Fault, All-nil, AreTaken, IsTaken, list_at}
use Rattle.mm_record.proofs.Words.{IsFresh, PortView, asked, offers_of, Offers, Supply, Gave, RecordingContext, offers}
use Rattle.mm_record.proofs.Words.{HasOffered}
use Rattle.mm_record.proofs.Offers.{offers_more}

-- what the source gave so far is recorded: the offers of these packets were made to each store, in order, and none was
-- refused
pub record RecordedSoFar (e : RecordingContext) (before after : Supply) (port : PortView) : Type 0 where
  pub gave : List SpacePacket
  pub order : before e.step ≡ gave ++ after e.step
  pub others : (t : ℕ) → t ≢ e.step → after t ≡ before t
  pub asked_are : (k : ℕ) → k < length e.ids → asked port k ≡ offers e k gave
  pub taken : (k : ℕ) → k < length e.ids → AreTaken (list_at port k)

-- at the start nothing was given
pub so_far_start : (e : RecordingContext) (before : Supply) (port : PortView) → IsFresh port
    → RecordedSoFar e before before port
so_far_start e before port fresh = record {
  gave = [];
  order = refl;
  others = λ t other. refl;
  asked_are = λ k within. rw fresh refl;
  taken = λ k within. rw fresh (All-nil (λ (x : Entry). IsTaken x.event x.reply));
}

-- the source gives a packet more
module _ {e : RecordingContext} {before mid after : Supply} {port : PortView} (so_far : RecordedSoFar e before mid port)
    (p : SpacePacket) (gives : Gave e.step (Some p) mid after) where
  order_more : before e.step ≡ (so_far.gave ++ p ∷ []) ++ after e.step
  order_more = so_far.order ∙ ap (λ (x : List SpacePacket). so_far.gave ++ x) gives.packet
      ∙ sym (append_assoc so_far.gave (p ∷ []) (after e.step))

  others_more : (t : ℕ) → t ≢ e.step → after t ≡ before t
  others_more t other = gives.others t other ∙ so_far.others t other

  -- which is offered
  pub so_far_more : {T : Type 0} {new : PortView} (x : T) → Offers e (offers_of e p) port new (Ok x)
      → RecordedSoFar e before after new
  so_far_more x adds = record {
    gave = so_far.gave ++ p ∷ [];
    order = order_more;
    others = others_more;
    asked_are = λ k within. (adds.lists k within).all ∙ ap (λ (x : List Event). x ++ offers_of e p k)
        (so_far.asked_are k within) ∙ sym (offers_more e k so_far.gave (p ∷ []));
    taken = λ k within. (adds.lists k within).taken (so_far.taken k within);
  }

  -- one of its offers fails
  pub offered_partly : {T : Type 0} {new : PortView} (fault : Fault)
      → Offers {T = T} e (offers_of e p) port new (Err fault) → HasOffered e before after (Some fault) new
  offered_partly fault adds = record {
    gave = so_far.gave ++ p ∷ [];
    run = record {
      order = order_more;
      others = others_more;
      whole = tt;
      partly = record {
        before = so_far.gave;
        last = p;
        are = refl;
        began = λ k within. rw (← so_far.asked_are k within) (adds.lists k within);
      };
    };
    taken = tt;
    reason = adds.reason;
  }
