-- The calls through a port while packets are offered, store by store.
use Rattle.mm_record.proofs.Words.{◌≡◌, inr, ℕ, ◌<◌, List, [], ◌∷◌, ◌++◌, length, Result, Ok, Err, refl, sym, ◌∙◌}
use Rattle.mm_record.proofs.Words.{append_assoc, arith, is_ok, nat_tests, filter-append, append-nil, map-append}
use Rattle.mm_record.proofs.Words.{SpacePacket, Entry, Offer, Fault, Returned, list_at, PortView, with_call, asked}
use Rattle.mm_record.proofs.Words.{offer_at, offers_by, OfferedWhole, OfferedUpTo, Offers, RecordingContext}
use Rattle.mm_record.proofs.Words.{IsRefusedWith, entry}
use Rattle.std.proofs.lemmas.List.Quantifiers.{Any-push}
use Rattle.mm_base.specs.declared.rows.RouteRow.{RouteRow}
use Rattle.mm_shared.proofs.CallsOn.{call_here}
use Rattle.mm_desk.specs.declared.reply.Reply.TheVariants as reply

-- an offer to the store at an index that is refused: it is in the list too, and is the reason
pub offer_refused : {T : Type 0} (e : RecordingContext) (port : PortView) (index : ℕ) (p : SpacePacket)
    (back : Returned)
    → index < length e.ids → Offers {T = T} e (offer_at e p index) port
    (with_call port index (Offer e.now p) (reply.Offered (Err back))) (Err back.fault)
offer_refused e port index p back within = record {
  end = refl;
  lists = λ k inside. record {
    made = offer_at e p index k;
    rest = [];
    are = sym (append-nil (offer_at e p index k));
    asks_are = grind (arith, nat_tests, filter-append, map-append, append-nil);
  };
  reason = inr (record {
    index = index;
    within = within;
    refused = rw (call_here index port.list index (entry port.number (Offer e.now p) (reply.Offered (Err back))) refl)
        (Any-push (λ (e : Entry). IsRefusedWith back.fault e.event e.reply) (list_at port index) _ refl);
  });
}

-- the offers of a packet by a row, and by the others after it
module _ (e : RecordingContext) (p : SpacePacket) (row : RouteRow) (rows : List RouteRow) where
  more : (k : ℕ) → offers_by e p (row ∷ rows) k ≡ offers_by e p (row ∷ []) k ++ offers_by e p rows k
  more k = grind (arith, nat_tests)

  pub row_after : {S T : Type 0} {x : S} {a b c : PortView} (r : Result T Fault)
      → Offers e (offers_by e p (row ∷ [])) a b (Ok x) → Offers e (offers_by e p rows) b c r
      → Offers e (offers_by e p (row ∷ rows)) a c r
  row_after {a = a} {b = b} {c = c} r one two = record {
    end = two.end ∙ one.end;
    lists = λ k within. both k r (one.lists k within) (two.lists k within);
    reason = two.reason;
  }
    where
      both : {T : Type 0} (k : ℕ) (r : Result T Fault)
          → OfferedWhole (offers_by e p (row ∷ []) k) (list_at a k) (list_at b k)
          → OfferedUpTo (is_ok r) (offers_by e p rows k) (list_at b k) (list_at c k)
          → OfferedUpTo (is_ok r) (offers_by e p (row ∷ rows) k) (list_at a k) (list_at c k)
      both k (Ok y) one two = record {
        all = cc (more k, append_assoc (asked a k) (offers_by e p (row ∷ []) k) (offers_by e p rows k));
        taken = λ t. two.taken (one.taken t);
      }
      both k (Err fault) one two = record {
        made = offers_by e p (row ∷ []) k ++ two.made;
        rest = two.rest;
        are = cc (more k, append_assoc (offers_by e p (row ∷ []) k) two.made two.rest);
        asks_are = cc (append_assoc (asked a k) (offers_by e p (row ∷ []) k) two.made);
      }

  -- the offers by the row end early, and the others are left
  pub row_ends : {S T : Type 0} {a b : PortView} (fault : Fault)
      → Offers {T = S} e (offers_by e p (row ∷ [])) a b (Err fault)
      → Offers {T = T} e (offers_by e p (row ∷ rows)) a b (Err fault)
  row_ends fault one = record {
    end = one.end;
    lists = λ k within.
        let part = one.lists k within in
        record {
          made = part.made;
          rest = part.rest ++ offers_by e p rows k;
          are = cc (more k, append_assoc part.made part.rest (offers_by e p rows k));
          asks_are = part.asks_are;
        };
    reason = one.reason;
  }
