-- Transfers that come to stand in the room.
use Rattle.std.proofs.Common.{◌≡◌, ℕ, ◌+◌, ◌-◌, ◌*◌, ◌≤◌, List, [], ◌∷◌, ◌++◌, length, take, drop, sym, refl, ap, ◌∙◌, append_assoc, add-zero, arith}
use borrow.Rule.Slice.PartMut.{put_mid}
use Rattle.std.proofs.lemmas.List.{take_at, drop_at, drop-drop, take-append-drop, length-append, length-take-le}
use Rattle.std.proofs.lemmas.Grind.{common_steps, flat_map-append}
use Rattle.plans.specs.declared.transfers.Transfer.{Transfer}
use Rattle.plans.specs.declared.transfers.Writer.{Writer}
use Rattle.plans.specs.Transfers.{words, flat}
use Rattle.plans.specs.Pieces.{splice, Added}

pub length_flat : (ts : List Transfer) → length (flat ts) ≡ 3 * length ts
length_flat [] = refl
length_flat (t ∷ ts) = omega (arith, length_flat ts)

-- the free part, lent from a on and written at its front, is back
pub lent : (a : ℕ) (room ws free : List ℕ) → a ≤ length room → free ≡ ws ++ drop (length ws) (take (length room - a) (drop a room)) →
    put_mid a (length room - a) room free ≡ splice a ws room
lent a room ws free l f = grind (arith, common_steps)

pub length_splice : (k : ℕ) (ws room : List ℕ) → k + length ws ≤ length room → length (splice k ws room) ≡ length room
length_splice k ws room l = grind (arith, common_steps)

pub added_none : (w : Writer) → 3 * w.count ≤ length w.room.now → Added w w []
added_none w l = record { same_room = refl; size = refl; begun = l; count = omega arith; room_is = rw add-zero (sym (take-append-drop (3 * w.count) w.room.now)) }

-- more transfers behind those that were added
pub added_more : (w w₁ w₂ : Writer) (ts us : List Transfer) → Added w w₁ ts → Added w₁ w₂ us → Added w w₂ (ts ++ us)
added_more w w₁ w₂ ts us a b =
    let k = 3 * w.count in
    let m : 3 * w₁.count ≡ k + length (flat ts) = omega (arith, a.count, length_flat ts) in
    let written : w₁.room.now ≡ (take k w.room.now ++ flat ts) ++ drop (k + length (flat ts)) w.room.now = rw append_assoc a.room_is in
    let l : length (take k w.room.now ++ flat ts) ≡ 3 * w₁.count = rw length-append (omega (arith, m, length-take-le k w.room.now a.begun)) in
    let t : take (3 * w₁.count) w₁.room.now ≡ take k w.room.now ++ flat ts = ap (λ x. take (3 * w₁.count) x) written ∙ take_at _ _ _ l in
    let d : drop (3 * w₁.count) w₁.room.now ≡ drop (k + length (flat ts)) w.room.now = ap (λ x. drop (3 * w₁.count) x) written ∙ drop_at _ _ _ l in
    let n : (k + length (flat ts)) + length (flat us) ≡ k + length (flat (ts ++ us)) = omega (arith, length_flat (ts ++ us), length-append ts us, length_flat ts, length_flat us) in
    let e : drop (3 * w₁.count + length (flat us)) w₁.room.now ≡ drop (k + length (flat (ts ++ us))) w.room.now
    = sym (drop-drop (length (flat us)) (3 * w₁.count) w₁.room.now) ∙ ap (λ x. drop (length (flat us)) x) d ∙ drop-drop (length (flat us)) (k + length (flat ts)) w.room.now ∙ ap (λ j. drop j w.room.now) n in
    record {
      same_room = b.same_room ∙ a.same_room;
      size = b.size ∙ a.size;
      begun = a.begun;
      count = omega (arith, length-append ts us, a.count, b.count);
      room_is = rw (b.room_is, t, e, flat_map-append words ts us) (simp append_assoc);
    }
