pub mod PageCopies
