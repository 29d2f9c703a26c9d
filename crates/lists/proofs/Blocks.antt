-- A list that does not write on itself, block by block: each takes its load and its bytes, the list stands as it stood, and behind the last the blitter is idle. Assumes nothing.
use mathlib.Core.Path.{◌≡◌, refl, sym, ◌∙◌, ap, subst}
use mathlib.Core.Bool.{Bool, cond}
use mathlib.Core.List.{List}
use Prim.Native.Nat.{ℕ, zero, suc, ◌+◌, ◌*◌, ◌-◌, ◌%◌, ◌<◌, ◌≤◌}
use native.Mathlib.Nat.{add_assoc, mod-add-mod}
use native.Mathlib.Omega.{arith}
use lib.Dec.{ltb}
use lib.ListN.{length, get_or}
use borrow.Author.Tests.{lt-ltb, le-ltb}
use Rattle.vram.specs.Memory.{place, byte_at, cell_at}
use Rattle.block.specs.Fold.{each}
use Rattle.block.specs.Block.{block_at, columns_of, rows_of}
use Rattle.block.specs.Byte.{row_at, col_at, size_of, dest_of, block_mem}
use Rattle.block.specs.declared.Block.{Block}
use Rattle.block.proofs.Byte.{place_length, block_length, block_other}
use Rattle.block.proofs.Bytes.{block_same}
use Rattle.block.proofs.Fold.{each_keeps}
use Rattle.block.proofs.Place.{row_in, col_in}
use Rattle.block.proofs.Sizes.{columns_pos}
use Rattle.engine.specs.Tick.{ended}
use Rattle.engine.specs.Machine.{Machine, after, holding}
use Rattle.engine.proofs.Machine.{after_none, after_add}
use Rattle.engine.proofs.Whole.{size_pos, block_busy, block_step}
use Rattle.lists.specs.Ends.{nth_block, Chain, list_ticks, list_memory}
use Rattle.lists.proofs.Runs.{flags_of, stays, Exactly}

-- the flags behind a block: 1 where another follows, else 0
abbrev following : Bool → ℕ
following next = cond next 1 0

module _ (mem : List ℕ) (a m : ℕ) (c : Chain mem a m) where
  -- a memory in which the list stands as it stood
  record Stands (x : List ℕ) : Type 0 where
    long : length x ≡ length mem
    bytes : (j : ℕ) → j < 21 * m → byte_at x a j ≡ byte_at mem a j

  module _ (k : ℕ) (l : k < m) where
    abbrev block : Block
    block = nth_block mem a k

    abbrev size : ℕ
    size = size_of block

    -- no byte of the block falls on a byte of the list
    off : (x : List ℕ) → length x ≡ length mem → (n j : ℕ) → n < size → j < 21 * m → place (length x) (a + j) ≡ dest_of x block n → ⊥
    unfolding dest_of
    off x long n j u q e =
        c.apart k (row_at block n) (col_at block n) j l (row_in (columns_of block) (columns_pos block) (rows_of block) n u) (col_in (columns_of block) (columns_pos block) n) q
        (sym (place_length x mem (a + j) long) ∙ e ∙ place_length x mem _ long)

    -- so it leaves the list
    leaves : (x : List ℕ) → Stands x → Stands (block_mem block size x)
    leaves x p =
        record {
          long = block_length block x size ∙ p.long;
          bytes =
              λ j q.
              ap (λ (z : ℕ). get_or (block_mem block size x) z 0) (place_length (block_mem block size x) x (a + j) (block_length block x size))
              ∙ block_other block x size (place (length x) (a + j)) (λ n u. off x p.long n j u q)
              ∙ p.bytes j q;
        }

  -- after k blocks
  stands : (k : ℕ) → k ≤ m → Stands (list_memory mem a k)
  unfolding list_memory
  stands k l = each_keeps Stands _ k mem (λ j x u. leaves j (omega arith) x) (record { long = refl; bytes = λ j q. refl })

  -- and the next is read as it stood
  found : (k : ℕ) → k < m → block_at (list_memory mem a k) ((a + 21 * k) % 524288) ≡ nth_block mem a k
  found k l =
      block_same (list_memory mem a k) mem ((a + 21 * k) % 524288) (a + 21 * k)
      (λ j q.
      ap (λ (z : ℕ). get_or (list_memory mem a k) (z % length (list_memory mem a k)) 0) (mod-add-mod (a + 21 * k) 524288 j)
      ∙ ap (cell_at (list_memory mem a k)) (add_assoc a (21 * k) j)
      ∙ (stands k (omega arith)).bytes (21 * k + j) (omega arith)
      ∙ sym (ap (cell_at mem) (add_assoc a (21 * k) j)))

  -- a blitter behind k blocks
  record Behind (k : ℕ) (s : Machine) : Type 0 where
    flags : s.blitter.flags ≡ following (ltb k m)
    list : s.blitter.list ≡ (a + 21 * k) % 524288
    made : s.mem ≡ list_memory mem a k

  -- the load and the bytes of block k
  module _ (k : ℕ) (l : k < m) (s : Machine) (p : Behind k s) where
    loads : s.blitter.flags ≡ 1
    loads = p.flags ∙ ap following (lt-ltb k m l)

    known : block_at s.mem s.blitter.list ≡ nth_block mem a k
    known = (λ i. block_at (p.made i) (p.list i)) ∙ found k l

    one_more : Behind (suc k) (after (suc (size k l)) s)
    unfolding ended holding list_memory each
    one_more =
        rw (block_step s (block k l) loads known)
        (record {
          flags = ap following (c.links k l);
          list = further s.blitter.list p.list;
          made = ap (block_mem (block k l) (size k l)) p.made;
        })
      where
        further : (list : ℕ) → list ≡ (a + 21 * k) % 524288 → (list + 21) % 524288 ≡ (a + 21 * suc k) % 524288
        further list e = omega arith

    -- and before the last of them it is busy
    busy_then : flags_of (after (suc (size k l - 1)) s) ≡ 2
    busy_then = ap flags_of (block_busy s (block k l) loads known (size k l - 1) (omega (arith, size_pos (block k l))))

  ticks_next : (k : ℕ) (l : k < m) → list_ticks mem a k + suc (size k l) ≡ list_ticks mem a (suc k)
  unfolding list_ticks
  ticks_next k l = omega arith

  behind : (k : ℕ) (s : Machine) → k ≤ m → Behind 0 s → Behind k (after (list_ticks mem a k) s)
  behind zero s l p = unfold list_ticks in rw (after_none s) p
  behind (suc k) s l p =
      subst (λ (t : ℕ). Behind (suc k) (after t s)) (ticks_next k l)
      (rw (after_add (list_ticks mem a k) (suc (size k l)) s) (one_more k l (after (list_ticks mem a k) s) (behind k s (omega arith) p)))

-- a blitter that loads such a list next goes idle after exactly the sum of its blocks' ticks
module _ (s : Machine) (a m : ℕ) (load : s.blitter.flags ≡ 1) (at : s.blitter.list ≡ a % 524288) (c : Chain s.mem a m) where
  start : Behind s.mem a m c 0 s
  start =
      record {
        flags = load ∙ sym (ap following (lt-ltb 0 m c.some));
        list = at ∙ ap (λ (z : ℕ). z % 524288) (let e : a ≡ a + 21 * 0 = omega arith in e);
        made = unfold list_memory each in refl;
      }

  end : Behind s.mem a m c m (after (list_ticks s.mem a m) s)
  end = behind s.mem a m c m s (omega arith) start

  -- the last tick is a byte tick, so it is not idle before
  module _ (k : ℕ) (e : suc k ≡ m) where
    last : ℕ
    last = list_ticks s.mem a k + suc (size_of (nth_block s.mem a k) - 1)

    busy_last : flags_of (after last s) ≡ 2
    unfolding last
    busy_last =
        ap flags_of (after_add (list_ticks s.mem a k) _ s)
        ∙ busy_then s.mem a m c k (omega arith) (after (list_ticks s.mem a k) s) (behind s.mem a m c k s (omega arith) start)

    not_before : (t : ℕ) → t < list_ticks s.mem a (suc k) → flags_of (after t s) ≡ 0 → ⊥
    unfolding list_ticks last
    not_before t l idle =
        omega (
          arith,
          busy_last,
          idle,
          ap flags_of (stays t last s (omega (arith, size_pos (nth_block s.mem a k))) idle),
        )

  pub list_ends : Exactly s (list_ticks s.mem a m) (list_memory s.mem a m)
  list_ends =
      let e : suc (m - 1) ≡ m = omega (arith, c.some) in
      record {
        busy = λ t l. not_before (m - 1) e t (rw e l);
        idle = end.flags ∙ ap following (le-ltb m m (omega arith));
        memory = end.made;
      }
