pub mod Histograms
