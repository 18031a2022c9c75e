-- Laws of parts written into bytes, one behind the other. Assumes nothing.
use Prim.Native.Nat.{ℕ, suc, ◌+◌, ◌≤◌}
use mathlib.Core.Path.{◌≡◌, refl, sym, ap, ◌∙◌}
use mathlib.Core.List.{List, [], ◌∷◌, ◌++◌, append-nil, append_assoc}
use native.Mathlib.Nat.{add-zero}
use native.Mathlib.Omega.{arith}
use borrow.Rule.Slice.PartMut.{put_mid, mid_of}
use lib.ListN.{length, take, drop, set, length-append, length-drop, drop_of_length-le}
use lib.Seq.{sets, sets-eq, drop-drop, length-sets}
use Rattle.std.proofs.Common.{length-take-le}
use Rattle.text.specs.Render.{render}
use Rattle.text.proofs.Write.{length_render}

-- two runs of stores, one behind the other, are one
pub sets_append : (l : List ℕ) (at : ℕ) (u v : List ℕ) → sets l at (u ++ v) ≡ sets (sets l at u) (at + length u) v
sets_append l at [] v = rw add-zero
sets_append l at (x ∷ u) v =
    let e : suc at + length u ≡ at + suc (length u) = omega arith in
    sets_append (set l at x) (suc at) u v ∙ ap (λ (k : ℕ). sets (sets (set l at x) (suc at) u) k v) e

-- a part written anew, as a run of stores
pub part_back : (at w : ℕ) (b x : List ℕ) → length x ≡ w → at + w ≤ length b → put_mid at w b x ≡ sets b at x
part_back at w b x h g =
    let g : at + length x ≤ length b = omega arith in
    rw (drop-drop, ← h) (sym (append_assoc (take at b) x (drop (at + length x) b))) ∙ sym (sets-eq x b at g)

-- stores over all there is
pub sets_all : (b v : List ℕ) → length v ≡ length b → sets b 0 v ≡ v
sets_all b v h =
    let z : length b ≤ 0 + length v = omega arith in
    sets-eq v b 0 (omega arith) ∙ ap (λ (l : List ℕ). v ++ l) (drop_of_length-le b z) ∙ append-nil v

-- b is l with the k bytes v at its front
pub record Wrote (l v : List ℕ) (k : ℕ) (b : List ℕ) : Type 0 where
  pub is : b ≡ sets l 0 v
  pub long : length v ≡ k

pub start : (l : List ℕ) → Wrote l [] 0 l
start l = record { is = refl; long = refl }

-- what is written, and behind it what was there
pub front : {l v : List ℕ} {k : ℕ} {b : List ℕ} → Wrote l v k b → k ≤ length l → b ≡ v ++ drop (length v) l
front {l} {v} w h =
    let z : 0 + length v ≡ length v = omega arith in
    w.is ∙ sets-eq v l 0 (omega (arith, w.long)) ∙ ap (λ (j : ℕ). v ++ drop j l) z

-- nothing was behind it
pub whole : {l v : List ℕ} {k : ℕ} {b : List ℕ} → Wrote l v k b → length l ≡ k → b ≡ v
whole {l} {v} w h = w.is ∙ sets_all l v (omega (arith, w.long))

-- a part behind what is written
module _ {l u : List ℕ} {k : ℕ} {b : List ℕ} where
  same_length : Wrote l u k b → length b ≡ length l
  same_length w = ap length w.is ∙ length-sets l 0 u

  more : (v : List ℕ) (m : ℕ) → Wrote l u k b → length v ≡ m → (c : List ℕ) → c ≡ sets b k v → Wrote l (u ++ v) (k + m) c
  more v m w n c e =
      let z : 0 + length u ≡ k = omega (arith, w.long) in
      record {
        is = e ∙ ap (λ (x : List ℕ). sets x k v) w.is ∙ sym (sets_append l 0 u v ∙ ap (λ (j : ℕ). sets (sets l 0 u) j v) z);
        long = length-append u v ∙ rw (w.long, n);
      }

  pub part : (v : List ℕ) (m : ℕ) → Wrote l u k b → length v ≡ m → k + m ≤ length l → (x : List ℕ) → x ≡ v
      → Wrote l (u ++ v) (k + m) (put_mid k m b x)
  part v m w n h x e = more v m w n (put_mid k m b x) (ap (put_mid k m b) e ∙ part_back k m b v n (omega (arith, same_length w)))

  pub number : (m : ℕ) → Wrote l u k b → k + m ≤ length l → (n : ℕ) (x : List ℕ) → x ≡ render (length (mid_of k m b)) n
      → Wrote l (u ++ render m n) (k + m) (put_mid k m b x)
  number m w h n x e =
      let s = same_length w in
      let d : length (mid_of k m b) ≡ m = length-take-le m (drop k b) (omega (arith, length-drop k b)) in
      part (render m n) m w (length_render m n) h x (e ∙ ap (λ (z : ℕ). render z n) d)

  pub byte : (v : ℕ) → Wrote l u k b → k + 1 ≤ length l → Wrote l (u ++ (v ∷ [])) (k + 1) (set b k v)
  byte v w h = more (v ∷ []) 1 w refl (set b k v) refl
